use Rattle.std.proofs.Common.{◌≡◌, suc, length, Some, Result, rules, sym, ap, ◌∙◌, subst}
use Rattle.std.proofs.lemmas.Result.{err_from_is_err_and}
use Rattle.buffer.specs.Refusals.{edit_refusal}
use Rattle.view.specs.Refusals.{view_refusal, deeper}
use Rattle.places.specs.declared.change.Change.{Change}
use Rattle.view.specs.declared.fault.ViewFault.{ViewFault}
use Rattle.view.specs.Views.{Edits}
use Rattle.view.specs.Stacks.{ceiling_of, after_edit}
use Rattle.layer.specs.Sound.{Sound}
use Rattle.layer.specs.Stacking.{edit_ceiling}
use Rattle.layer.specs.Carrying.{Lawful, behind_when, over_when, carried_whole}
use Rattle.layer.proofs.Rising.{mapped_ok, mapped_err, mapped_none, deeper_refusal}
use Rattle.layer.proofs.layer.LayerView.edit.Goals as goal

pub returns-in_err-change : goal.returns-in_err-change
returns-in_err-change g c =
    let l = c.args.self.now in
    let v = l.below in
    let v' = c.edit.new.self in
    let e = g.V.Meaning in
    let p = err_from_is_err_and c.from_residual.result c.from_residual.ensures.1 in
    let f = mapped_err deeper _ (λ e z k. search rules) c.edit.result c.map_err.result c.in_err-change.field-0.0 c.map_err.ensures.cases c.in_err-change.was in
    let P : Result Change ViewFault → Type 0 = λ x. Edits e.most e.doc e.spare_of e.stack v v' e.spare_after c.args.a c.args.r c.args.w.now x in
    let does = subst P f.1.0 c.edit.ensures.does in
    let told = deeper_refusal (suc (length (e.stack v))) (edit_refusal (length (e.doc v)) (e.spare_of v) c.args.a c.args.r c.args.w.now) f.0 does.0 in
    let same : p.0 ≡ deeper f.0 = p.2 ∙ f.1.1 in
    let Q : g.row.V.Denot → Type 0 = λ z. Sound e z (g.K.Kind.records l.kind) l.len l.ceiling l.awake in
    record {
      sound = subst Q (sym does.1) c.requires;
      does = rw p.1 (told ∙ ap (λ (z : ViewFault). Some (view_refusal z)) (sym same), ap (λ (z : g.row.V.Denot). record { below = z; kind = l.kind; len = l.len; ceiling = l.ceiling; awake = l.awake }) does.1);
    }

pub carry-requires : goal.carry-requires
carry-requires g c =
    let v = c.args.self.now.below in
    let v' = c.edit.new.self in
    let e = g.V.Meaning in
    let r = g.K.Kind.records c.args.self.now.kind in
    let s = c.requires in
    let s' = c.edit.ensures.sound in
    let own = c.in_ok-change.change in
    let by : Change = record { start = c.args.a; old = c.args.r; new = length c.args.w.now } in
    let law : (z : g.row.V.Denot) → g.V.Meaning.sound z → Lawful g.V.Meaning z = λ z s. record { sound = s; fits = g.met.V.View.fits z s; small = g.met.V.View.small z s } in
    let P : Result Change ViewFault → Type 0 = λ x. Edits e.most e.doc e.spare_of e.stack v v' e.spare_after c.args.a c.args.r c.args.w.now x in
    let does = subst P (mapped_ok deeper _ (λ e z k. search rules) c.edit.result c.map_err.result own c.map_err.ensures.cases c.in_ok-change.was) c.edit.ensures.does in
    let low : ceiling_of e.most (e.stack v') ≡ ceiling_of e.most (e.stack v) = ap (ceiling_of e.most) does.3.0 ∙ edit_ceiling e.most (e.stack v) (e.doc v) (e.doc v') by in
    record {
      sound = s';
      behind = behind_when e v v' (law v s.below) (law v' s') r _ _ _ s own does.3.2 low;
      over = over_when e v v' (law v s.below) (law v' s') r _ _ _ s own does.3.2 low;
    }

pub returns : goal.returns
returns g c =
    let v = c.args.self.now.below in
    let v' = c.edit.new.self in
    let e = g.V.Meaning in
    let r = g.K.Kind.records c.args.self.now.kind in
    let s = c.requires in
    let s' = c.edit.ensures.sound in
    let own = c.in_ok-change.change in
    let by : Change = record { start = c.args.a; old = c.args.r; new = length c.args.w.now } in
    let law : (z : g.row.V.Denot) → g.V.Meaning.sound z → Lawful g.V.Meaning z = λ z s. record { sound = s; fits = g.met.V.View.fits z s; small = g.met.V.View.small z s } in
    let P : Result Change ViewFault → Type 0 = λ x. Edits e.most e.doc e.spare_of e.stack v v' e.spare_after c.args.a c.args.r c.args.w.now x in
    let does = subst P (mapped_ok deeper _ (λ e z k. search rules) c.edit.result c.map_err.result own c.map_err.ensures.cases c.in_ok-change.was) c.edit.ensures.does in
    let low : ceiling_of e.most (e.stack v') ≡ ceiling_of e.most (e.stack v) = ap (ceiling_of e.most) does.3.0 ∙ edit_ceiling e.most (e.stack v) (e.doc v) (e.doc v') by in
    let l' = c.carry.new.self in
    let b = l'.below in
    let at = c.carry.ensures.below in
    let went = carried_whole e v v' (law v s.below) (law v' s') r _ _ _ s own does.3.2 low (g.K.Kind.records l'.kind) l'.len c.carry.result c.carry.ensures.awake
    (after_edit e.most (e.stack v) (e.doc v) (e.doc b) by)
    (does.3.1 ∙ ap (λ (z : g.row.V.Denot). (after_edit e.most (e.stack v) (e.doc v) (e.doc z) by).change) (sym at))
    (does.3.0 ∙ ap (λ (z : g.row.V.Denot). (after_edit e.most (e.stack v) (e.doc v) (e.doc z) by).stack) (sym at))
    b l'.ceiling l'.awake at c.carry.ensures.numbers.0 c.carry.ensures.numbers.1 in
    record {
      sound = went.sound;
      does = (
        mapped_none (suc (length (e.stack v))) (suc (suc (length (e.stack v)))) (edit_refusal (length (e.doc v)) (e.spare_of v) c.args.a c.args.r c.args.w.now) does.0,
        ap e.doc at ∙ does.1,
        ap e.spare_of at ∙ does.2,
        (went.stack, went.change, went.kept),
      );
    }
