-- Marks that take nothing and marks that take something stay such when they follow, when one is put and when one goes.
-- Assumes nothing.
use Rattle.std.proofs.Common.{◌≡◌, ℕ, ◌+◌, ◌<◌, cond, leb, List, [], ◌∷◌, ◌++◌, sym, subst}
use Rattle.std.proofs.lemmas.Bool.{cond_both}
use Rattle.places.specs.Marks.{Mark, past, moved, followed, ended, unended, put, Light, Solid}
use Rattle.places.proofs.Splitting.{ended_split}

pub light_parts : (a b : List Mark) → Light (a ++ b) → Light a × Light b
light_parts [] b g = (tt, g)
light_parts (m ∷ a) b g = let rest = light_parts a b g.1 in ((g.0, rest.0), rest.1)

pub solid_parts : (a b : List Mark) → Solid (a ++ b) → Solid a × Solid b
solid_parts [] b g = (tt, g)
solid_parts (m ∷ a) b g = let rest = solid_parts a b g.1 in ((g.0, rest.0), rest.1)

pub light-append : (a b : List Mark) → Light a → Light b → Light (a ++ b)
light-append [] b g h = h
light-append (m ∷ a) b g h = (g.0, light-append a b g.1 h)

pub solid-append : (a b : List Mark) → Solid a → Solid b → Solid (a ++ b)
solid-append [] b g h = h
solid-append (m ∷ a) b g h = (g.0, solid-append a b g.1 h)

-- following a change
pub followed_light : (s o n : ℕ) (ms : List Mark) → Light ms → Light (followed s o n ms)
followed_light s o n [] g = tt
followed_light s o n (m ∷ ms) g =
    let rest : List Mark = followed s o n ms in
    let light : Light rest = followed_light s o n ms g.1 in
    cond_both (leb (past m) s) (m ∷ rest) (cond (leb (s + o) m.at) (moved o n m ∷ rest) rest) Light
    (λ _. (g.0, light))
    (λ _. cond_both (leb (s + o) m.at) (moved o n m ∷ rest) rest Light (λ _. (g.0, light)) (λ _. light))

pub followed_solid : (s o n : ℕ) (ms : List Mark) → Solid ms → Solid (followed s o n ms)
followed_solid s o n [] g = tt
followed_solid s o n (m ∷ ms) g =
    let rest : List Mark = followed s o n ms in
    let solid : Solid rest = followed_solid s o n ms g.1 in
    cond_both (leb (past m) s) (m ∷ rest) (cond (leb (s + o) m.at) (moved o n m ∷ rest) rest) Solid
    (λ _. (g.0, solid))
    (λ _. cond_both (leb (s + o) m.at) (moved o n m ∷ rest) rest Solid (λ _. (g.0, solid)) (λ _. solid))

-- one mark put
pub put_light : (m : Mark) (ms : List Mark) → m.takes ≡ 0 → Light ms → Light (put m ms)
put_light m ms t g =
    let parts = light_parts (ended m.at ms) (unended m.at ms) (subst Light (sym (ended_split m.at ms)) g) in
    light-append (ended m.at ms) (m ∷ unended m.at ms) parts.0 (t, parts.1)

pub put_solid : (m : Mark) (ms : List Mark) → 0 < m.takes → Solid ms → Solid (put m ms)
put_solid m ms t g =
    let parts = solid_parts (ended m.at ms) (unended m.at ms) (subst Solid (sym (ended_split m.at ms)) g) in
    solid-append (ended m.at ms) (m ∷ unended m.at ms) parts.0 (t, parts.1)

-- one mark gone
pub out_light : (a b : List Mark) (m : Mark) → Light (a ++ (m ∷ b)) → Light (a ++ b)
out_light a b m g = let parts = light_parts a (m ∷ b) g in light-append a b parts.0 parts.1.1

pub out_solid : (a b : List Mark) (m : Mark) → Solid (a ++ (m ∷ b)) → Solid (a ++ b)
out_solid a b m g = let parts = solid_parts a (m ∷ b) g in solid-append a b parts.0 parts.1.1
