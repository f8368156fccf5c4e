use Rattle.std.proofs.Common.{ℕ, leb, ap, ◌∙◌, rules}
use Rattle.std.specs.List.{prefix_len}
use Rattle.places.specs.Marks.{past}
use Rattle.tables.specs.Tables.{records_of, marks_of}
use Rattle.layers.proofs.Ordering.{put_made}
use Rattle.layers.proofs.finding.put_in.Goals as goal

pub returns : goal.returns
returns g c =
    put_made g.R.Record.mark (records_of c.args.table.now) (records_of c.insert.new.self) c.args.record c.ended-k.result c.args.table.now c.insert.new.self _
    (c.ended-k.ensures ∙ ap (λ (p : ℕ). prefix_len (λ m. leb (past m) p) (marks_of g.R.Record.mark c.args.table.now)) c.place.ensures)
    (λ e f k. search rules) c.insert.result c.map_err.result c.insert.ensures.made c.insert.ensures.ok c.insert.ensures.err c.map_err.ensures.cases
