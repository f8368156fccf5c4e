-- What a view of any kind shows, by its ghost members. Assumes nothing.
use Rattle.std.specs.Prelude.{ℕ, List}
pub use Rattle.view.specs.declared.view.Meaning.{Ghosts as Eyes}
use Rattle.view.specs.Stacks.{text_of, first_place}

module _ {V : Type 0} (e : Eyes V) (v : V) where
  abbrev pub text_at : List ℕ
  text_at = text_of e.most (e.stack v) (e.doc v)

  abbrev pub first_at : ℕ → ℕ
  first_at p = first_place e.most (e.stack v) (e.doc v) p
