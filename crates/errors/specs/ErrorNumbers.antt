-- The document's number of each error of a task on a parameter (document 01, Parameter area, Errors).
use Rattle.std.specs.Prelude.{ℕ}
use Rattle.errors.specs.declared.ParameterError.{ParameterError}
use Rattle.errors.specs.declared.ParameterError.TheVariants.{NoParameter, NotWritable, OutsideLimits, NoElement, NoArray, OtherWidth, NoRoom, NoTask}

abbrev pub error_number : ParameterError → ℕ
error_number NoParameter = 0
error_number NotWritable = 1
error_number OutsideLimits = 2
error_number NoElement = 3
error_number NoArray = 4
error_number OtherWidth = 5
error_number NoRoom = 102
error_number NoTask = 106
