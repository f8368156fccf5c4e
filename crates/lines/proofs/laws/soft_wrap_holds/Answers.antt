use Rattle.lines.proofs.Wrapping.{rows_fit, rows_well_broken, breaks_taken_out, short_lines_stay, long_lines_break, wrapped_anew}
use Rattle.lines.proofs.laws.soft_wrap_holds.Goals as goal

pub returns : goal.returns
returns c = record {
  fit = rows_fit;
  broken = rows_well_broken;
  taken_out = breaks_taken_out;
  short = short_lines_stay;
  long = long_lines_break;
  alone = wrapped_anew;
}
