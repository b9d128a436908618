-- What an iterator over lines has still to give. Assumes nothing.
use Rattle.std.specs.Prelude.{ℕ, List, drop}
use Rattle.rehearse.specs.declared.lines.Lines.{Lines}
use Rattle.rehearse.specs.Lines.{lines}

abbrev pub to_come : Lines → List (List ℕ)
to_come it = lines (drop it.at it.script.now)
