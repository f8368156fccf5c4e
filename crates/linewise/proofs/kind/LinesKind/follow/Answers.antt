use Rattle.std.proofs.Common.{sym, ◌∙◌}
use Rattle.view.specs.Seen.{text_at}
use Rattle.linewise.proofs.Raising.{raised_lines}
use Rattle.linewise.proofs.kind.LinesKind.follow.Goals as goal

pub returns-clause-raises : goal.returns-clause-raises
returns-clause-raises g c =
    let s = c.walk.result.scan in
    let w = c.args.self.now.width in
    let t = text_at g.V.Meaning c.args.below.now in
    let change = c.args.change in
    λ xs fit kept sized.
    raised_lines (g.S.Scan.transducer s) (g.met.S.Scan.steady s) (g.S.Width.records_at w) c.walk.ensures.shows xs t change kept c.args.len sized
    (g.S.Width.anew_from xs change.start) _ (g.met.S.Width.anew_same s xs t change kept) c.raise.result
    (rw (sym c.anew-from.ensures) (rw (sym c.walk.ensures.below) c.raise.ensures))
    ∙ sym (g.met.S.Width.raises w xs t change)
