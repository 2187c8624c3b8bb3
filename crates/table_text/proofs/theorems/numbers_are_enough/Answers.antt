use Rattle.table_text.proofs.Numbers.{enough}
use Rattle.table_text.proofs.theorems.numbers_are_enough.Goals as goal

pub returns : goal.returns
returns c = enough
