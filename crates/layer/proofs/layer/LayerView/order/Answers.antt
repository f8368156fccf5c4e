use Rattle.std.proofs.Common.{◌≡◌, ℕ, zero, suc, ◌-◌, ◌≤◌, List, ◌∷◌, length, Some, Result, rules, sym, refl, ap, ◌∙◌, subst, arith}
use Rattle.std.proofs.lemmas.Result.{err_from_is_err_and}
use Rattle.places.specs.declared.change.Change.{Change}
use Rattle.view.specs.declared.fault.Cause.{Cause}
use Rattle.view.specs.declared.fault.ViewFault.{ViewFault}
use Rattle.view.specs.declared.order.Order.{Order}
use Rattle.view.specs.Refusals.{view_refusal, deeper, meant_for}
use Rattle.view.specs.Layers.{Records}
use Rattle.view.specs.Stacks.{ceiling_of, after_order, carried, order_refusal_of}
use Rattle.view.specs.Kinds.{Carries}
use Rattle.view.specs.Views.{Obeys}
use Rattle.view.specs.Seen.{text_at, first_at}
use Rattle.layer.specs.Sound.{Sound}
use Rattle.layer.specs.Stacking.{order_ceiling}
use Rattle.layer.specs.Carrying.{Lawful, behind_when, over_when, carried_whole, sound_over}
use Rattle.layer.proofs.Ordering.{obeyed_over, obeyed_sound, obeyed_text}
use Rattle.layer.proofs.Rising.{mapped_ok, mapped_err, deeper_order, deeper_none, refused_own, taken_own}
use Rattle.layer.proofs.layer.LayerView.order.Goals as goal

-- an order for a layer below

pub returns-in_err-change : goal.returns-in_err-change
returns-in_err-change g c =
    let l = c.args.self.now in
    let v = l.below in
    let v' = c.order.new.self in
    let e = g.V.Meaning in
    let r = g.K.Kind.records l.kind in
    let k = c.args.k - 1 in
    let up : suc k ≡ c.args.k = omega arith in
    let o = c.args.order in
    let w = c.args.w.now in
    let p = err_from_is_err_and c.from_residual.result c.from_residual.ensures.1 in
    let f = mapped_err (λ f. meant_for c.args.k (deeper f)) _ (λ f z i. search rules) c.order.result c.map_err.result c.in_err-change.field-0.0 c.map_err.ensures.cases c.in_err-change.was in
    let P : Result Change ViewFault → Type 0 = λ x. Obeys e.most e.doc e.spare_of e.stack v v' k o w x in
    let does = subst P f.1.0 c.order.ensures.does in
    let T : ℕ → Type 0 = λ n. order_refusal_of e.most (r ∷ e.stack v) (e.doc v) n o w ≡ Some (view_refusal (meant_for n (deeper f.0))) in
    let told = subst T up (deeper_order e.most r (e.stack v) (e.doc v) k o w f.0 does.0) in
    let same : p.0 ≡ meant_for c.args.k (deeper f.0) = p.2 ∙ f.1.1 in
    let Q : g.row.V.Denot → Type 0 = λ z. Sound e z r l.len l.ceiling l.awake in
    record {
      sound = subst Q (sym does.1) c.requires;
      does = rw p.1 (told ∙ ap (λ (z : ViewFault). Some (view_refusal z)) (sym same), ap (λ (z : g.row.V.Denot). record { below = z; kind = l.kind; len = l.len; ceiling = l.ceiling; awake = l.awake }) does.1);
    }

pub carry-requires : goal.carry-requires
carry-requires g c =
    let v = c.args.self.now.below in
    let v' = c.order.new.self in
    let e = g.V.Meaning in
    let r = g.K.Kind.records c.args.self.now.kind in
    let s = c.requires in
    let s' = c.order.ensures.sound in
    let k = c.args.k - 1 in
    let o = c.args.order in
    let w = c.args.w.now in
    let own = c.in_ok-change.change in
    let law : (z : g.row.V.Denot) → g.V.Meaning.sound z → Lawful g.V.Meaning z = λ z s. record { sound = s; fits = g.met.V.View.fits z s; small = g.met.V.View.small z s } in
    let P : Result Change ViewFault → Type 0 = λ x. Obeys e.most e.doc e.spare_of e.stack v v' k o w x in
    let does = subst P (mapped_ok (λ f. meant_for c.args.k (deeper f)) _ (λ f z i. search rules) c.order.result c.map_err.result own c.map_err.ensures.cases c.in_ok-change.was) c.order.ensures.does in
    let low : ceiling_of e.most (e.stack v') ≡ ceiling_of e.most (e.stack v) = ap (ceiling_of e.most) does.3.0 ∙ order_ceiling e.most (e.stack v) (e.doc v) k o w in
    record {
      sound = s';
      behind = behind_when e v v' (law v s.below) (law v' s') r _ _ _ s own does.3.2 low;
      over = over_when e v v' (law v s.below) (law v' s') r _ _ _ s own does.3.2 low;
    }

pub returns-then-k-gt0 : goal.returns-then-k-gt0
returns-then-k-gt0 g c =
    let up : suc (c.args.k - 1) ≡ c.args.k = omega arith in
    let v = c.args.self.now.below in
    let v' = c.order.new.self in
    let e = g.V.Meaning in
    let r = g.K.Kind.records c.args.self.now.kind in
    let s = c.requires in
    let s' = c.order.ensures.sound in
    let k = c.args.k - 1 in
    let o = c.args.order in
    let w = c.args.w.now in
    let own = c.in_ok-change.change in
    let law : (z : g.row.V.Denot) → g.V.Meaning.sound z → Lawful g.V.Meaning z = λ z s. record { sound = s; fits = g.met.V.View.fits z s; small = g.met.V.View.small z s } in
    let P : Result Change ViewFault → Type 0 = λ x. Obeys e.most e.doc e.spare_of e.stack v v' k o w x in
    let does = subst P (mapped_ok (λ f. meant_for c.args.k (deeper f)) _ (λ f z i. search rules) c.order.result c.map_err.result own c.map_err.ensures.cases c.in_ok-change.was) c.order.ensures.does in
    let low : ceiling_of e.most (e.stack v') ≡ ceiling_of e.most (e.stack v) = ap (ceiling_of e.most) does.3.0 ∙ order_ceiling e.most (e.stack v) (e.doc v) k o w in
    let lower = after_order e.most (e.stack v) (e.doc v) k o w in
    let l' = c.carry.new.self in
    let b = l'.below in
    let at = c.carry.ensures.below in
    let docs : e.doc b ≡ e.doc v = ap e.doc at ∙ does.1 in
    let went = carried_whole e v v' (law v s.below) (law v' s') r _ _ _ s own does.3.2 low (g.K.Kind.records l'.kind) l'.len c.carry.result c.carry.ensures.awake
    lower does.3.1 does.3.0 b l'.ceiling l'.awake at c.carry.ensures.numbers.0 c.carry.ensures.numbers.1 in
    record {
      sound = went.sound;
      does = (
        ap (λ (n : ℕ). order_refusal_of e.most (r ∷ e.stack v) (e.doc v) n o w) (sym up) ∙ deeper_none e.most r (e.stack v) (e.doc v) k o w does.0,
        docs,
        ap e.spare_of at ∙ does.2,
        (
          went.stack ∙ ap (λ (n : ℕ). (after_order e.most (r ∷ e.stack v) (e.doc v) n o w).stack) up,
          went.change ∙ ap (λ (d : List ℕ). (carried e.most r (e.stack v) (e.doc v) d lower).change) docs ∙ ap (λ (n : ℕ). (after_order e.most (r ∷ e.stack v) (e.doc v) n o w).change) up,
          went.kept,
        ),
      );
    }

-- an order for this layer itself, that is for the one 0 steps down

at_zero : (most : ℕ) (r : Records) (rs : List Records) (d : List ℕ) (k : ℕ) (o : Order) (w : List ℕ) → k ≤ 0
    → order_refusal_of most (r ∷ rs) d k o w ≡ order_refusal_of most (r ∷ rs) d zero o w
at_zero most r rs d k o w h = let z : k ≡ 0 = omega arith in ap (λ (n : ℕ). order_refusal_of most (r ∷ rs) d n o w) z

pub order-requires-2 : goal.order-requires-2
order-requires-2 g c =
    let v = c.args.self.now.below in
    let law : (z : g.row.V.Denot) → g.V.Meaning.sound z → Lawful g.V.Meaning z = λ z s. record { sound = s; fits = g.met.V.View.fits z s; small = g.met.V.View.small z s } in
    record { over = sound_over g.V.Meaning v (law v c.requires.below) (g.K.Kind.records c.args.self.now.kind) _ _ _ c.requires c.if-not-self.false; own = sym c.has_verb.ensures ∙ c.if-not-has_verb.false }

pub returns-in_err-change-2 : goal.returns-in_err-change-2
returns-in_err-change-2 g c =
    let l = c.args.self.now in
    let v = l.below in
    let e = g.V.Meaning in
    let r = g.K.Kind.records l.kind in
    let o = c.args.order in
    let w = c.args.w.now in
    let p = err_from_is_err_and c.from_residual-in_err-change-2.result c.from_residual-in_err-change-2.ensures.1 in
    let f = mapped_err (λ f. record { cause = f; layer = 0 }) _ (λ f z i. search rules) c.order-2.result c.map_err-2.result c.in_err-change-2.field-0.0 c.map_err-2.ensures.cases c.in_err-change-2.was in
    let P : Result Change Cause → Type 0 = λ x. Carries r (g.K.Kind.records c.order-2.new.self) l.kind c.order-2.new.self (text_at e v) (length (e.doc v)) (first_at e v o.x) (first_at e v o.y) o w x in
    let does = subst P f.1.0 c.order-2.ensures in
    let has = g.met.K.Kind.speaks l.kind o.verb ∙ sym c.has_verb.ensures ∙ c.if-not-has_verb.false in
    let up = sym c.requires.knows ∙ c.if-not-self.false in
    let same : p.0 ≡ record { cause = f.0; layer = 0 } = p.2 ∙ f.1.1 in
    let Q : g.row.K.Denot → Type 0 = λ z. Sound e v (g.K.Kind.records z) l.len l.ceiling l.awake in
    record {
      sound = subst Q (sym does.1) c.requires;
      does = rw p.1 (
        at_zero e.most r (e.stack v) (e.doc v) c.args.k o w c.if-k-gt0.false ∙ refused_own e.most r (e.stack v) (e.doc v) o w has up f.0 does.0 ∙ ap (λ (z : ViewFault). Some (view_refusal z)) (sym same),
        ap (λ (z : g.row.K.Denot). record { below = v; kind = z; len = l.len; ceiling = l.ceiling; awake = l.awake }) does.1,
      );
    }

pub len-self-requires : goal.len-self-requires
len-self-requires g c =
    let v = c.args.self.now.below in
    let e = g.V.Meaning in
    let r = g.K.Kind.records c.args.self.now.kind in
    let s = c.requires in
    let o = c.args.order in
    let w = c.args.w.now in
    let law : (z : g.row.V.Denot) → g.V.Meaning.sound z → Lawful g.V.Meaning z = λ z s. record { sound = s; fits = g.met.V.View.fits z s; small = g.met.V.View.small z s } in
    let q = g.K.Kind.records c.order-2.new.self in
    let P : Result Change Cause → Type 0 = λ x. Carries r q c.args.self.now.kind c.order-2.new.self (text_at e v) (length (e.doc v)) (first_at e v o.x) (first_at e v o.y) o w x in
    let does = subst P (mapped_ok (λ f. record { cause = f; layer = 0 }) _ (λ f z i. search rules) c.order-2.result c.map_err-2.result c.in_ok-change-2.change c.map_err-2.ensures.cases c.in_ok-change-2.was) c.order-2.ensures in
    obeyed_over e v (law v s.below) r _ _ _ s c.if-not-self.false o w q does.0 does.1

pub returns : goal.returns
returns g c =
    let v = c.args.self.now.below in
    let e = g.V.Meaning in
    let r = g.K.Kind.records c.args.self.now.kind in
    let s = c.requires in
    let o = c.args.order in
    let w = c.args.w.now in
    let law : (z : g.row.V.Denot) → g.V.Meaning.sound z → Lawful g.V.Meaning z = λ z s. record { sound = s; fits = g.met.V.View.fits z s; small = g.met.V.View.small z s } in
    let q = g.K.Kind.records c.order-2.new.self in
    let P : Result Change Cause → Type 0 = λ x. Carries r q c.args.self.now.kind c.order-2.new.self (text_at e v) (length (e.doc v)) (first_at e v o.x) (first_at e v o.y) o w x in
    let does = subst P (mapped_ok (λ f. record { cause = f; layer = 0 }) _ (λ f z i. search rules) c.order-2.result c.map_err-2.result c.in_ok-change-2.change c.map_err-2.ensures.cases c.in_ok-change-2.was) c.order-2.ensures in
    let has = g.met.K.Kind.speaks c.args.self.now.kind o.verb ∙ sym c.has_verb.ensures ∙ c.if-not-has_verb.false in
    let up = sym s.knows ∙ c.if-not-self.false in
    let zero_k : 0 ≡ c.args.k = omega arith in
    record {
      sound = obeyed_sound e v (law v s.below) r _ _ _ s c.if-not-self.false o w q does.0 does.1 c.len-self.result c.len-self.ensures;
      does = (
        at_zero e.most r (e.stack v) (e.doc v) c.args.k o w c.if-k-gt0.false ∙ taken_own e.most r (e.stack v) (e.doc v) o w has up does.0,
        refl,
        refl,
        (
          ap (λ (z : Records). z ∷ e.stack v) does.1 ∙ ap (λ (n : ℕ). (after_order e.most (r ∷ e.stack v) (e.doc v) n o w).stack) zero_k,
          does.2 ∙ ap (λ (n : ℕ). (after_order e.most (r ∷ e.stack v) (e.doc v) n o w).change) zero_k,
          obeyed_text e v (law v s.below) r _ _ _ s c.if-not-self.false o w q does.0 does.1 c.in_ok-change-2.change does.2,
        ),
      );
    }
