-- With a line feed the first line ends there, and without one all is the last line.
use Rattle.std.proofs.Common.{sym, arith}
use Rattle.std.proofs.lemmas.Bool.Decides.{nat_tests}
use Rattle.sg_shell.proofs.LineLemmas.{lines_of-ended, lines_of-unended}
use Rattle.sg_shell.proofs.lines.first_line.Goals as goal

pub returns-in-Some-clause-first : goal.returns-in-Some-clause-first
returns-in-Some-clause-first c =
    lines_of-ended c.args.bytes.now c.in-Some.at (sym c.in-Some.ensures.first)

pub returns-in-None-clause-first : goal.returns-in-None-clause-first
returns-in-None-clause-first c =
    lines_of-unended c.args.bytes.now (grind (arith, nat_tests)) (sym c.in-None.ensures.first)
