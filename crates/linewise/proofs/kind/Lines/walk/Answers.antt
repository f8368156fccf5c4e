use Rattle.std.proofs.Common.{ℕ, sym, ap, ◌∙◌}
use Rattle.view.specs.Layers.{pieces}
use Rattle.linewise.specs.Widths.{short, walkable}
use Rattle.linewise.proofs.kind.Lines.walk.Goals as goal

pub invariant_of-result : goal.invariant_of-result
invariant_of-result g c =
    let s = c.at_width.result in
    let room = (g.met.S.Width.grows c.args.self.now.width _).1.0 c.requires.room in
    record { short = short g.V.Meaning c.args.below.now (g.S.Scan.transducer s) g.S.Width.FACTOR (g.met.S.Width.shows_few s) c.requires.low room }

pub returns-clause-shows : goal.returns-clause-shows
returns-clause-shows g c = λ xs. ap (λ (w : ℕ). pieces (g.S.Width.records_at w) xs) (sym c.at_width.ensures) ∙ g.met.S.Width.shows c.at_width.result xs

pub returns-clause-walkable : goal.returns-clause-walkable
returns-clause-walkable g c =
    let s = c.at_width.result in
    let room = (g.met.S.Width.grows c.args.self.now.width _).1.0 c.requires.room in
    walkable g.V.Meaning c.args.below.now (g.S.Scan.transducer s) g.S.Width.FACTOR (g.met.S.Width.shows_few s) c.requires.sound c.requires.low room
