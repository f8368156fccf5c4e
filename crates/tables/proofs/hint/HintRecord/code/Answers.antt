use Rattle.std.proofs.Common.{sym, arith, length-take}
use Rattle.std.proofs.lemmas.List.{get_or-take}
use Rattle.tables.proofs.hint.HintRecord.code.Goals as goal

pub bounds-self-i : goal.bounds-self-i
bounds-self-i c = omega (arith, length-take c.args.self.now.len c.args.self.now.codes)

pub returns : goal.returns
returns c =
    sym (get_or-take c.args.self.now.len c.args.self.now.codes c.args.i 0 (omega (arith, length-take c.args.self.now.len c.args.self.now.codes)))
