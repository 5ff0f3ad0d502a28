-- The numbers and names of the faults.
use Rattle.std.specs.Prelude.{ℕ, List, codes}
use Rattle.tensor_ops.specs.ExprFault.{ExprFault}
use Rattle.tensor_ops.specs.ExprFault.TheVariants as expr
use Rattle.expr_reader.specs.declared.fault.Fault.{Fault}
use Rattle.expr_reader.specs.declared.fault.Fault.TheVariants.{TooLong, NotJson, BadField}
use Rattle.expr_reader.specs.declared.fault.Fault.TheVariants.{BadVersion, BadWorkers, BadBlock}
use Rattle.expr_reader.specs.declared.fault.Fault.TheVariants.{BadTensor, UnknownInput, UnknownOp}
use Rattle.expr_reader.specs.declared.fault.Fault.TheVariants.{BadArity, BadArgument, ShapeMismatch}
use Rattle.expr_reader.specs.declared.fault.Fault.TheVariants.{OutOfRange, TooLarge, NoMemory}

-- the number and the name of a fault
abbrev pub number_and_name : Fault → ℕ × List ℕ
number_and_name TooLong = (1, codes "TooLong")
number_and_name NotJson = (2, codes "NotJson")
number_and_name BadField = (3, codes "BadField")
number_and_name BadVersion = (4, codes "BadVersion")
number_and_name BadWorkers = (5, codes "BadWorkers")
number_and_name BadBlock = (6, codes "BadBlock")
number_and_name BadTensor = (7, codes "BadTensor")
number_and_name UnknownInput = (8, codes "UnknownInput")
number_and_name UnknownOp = (9, codes "UnknownOp")
number_and_name BadArity = (10, codes "BadArity")
number_and_name BadArgument = (11, codes "BadArgument")
number_and_name ShapeMismatch = (12, codes "ShapeMismatch")
number_and_name OutOfRange = (13, codes "OutOfRange")
number_and_name TooLarge = (14, codes "TooLarge")
number_and_name NoMemory = (15, codes "NoMemory")

abbrev pub fault_number : Fault → ℕ
fault_number f = (number_and_name f).0

abbrev pub fault_name : Fault → List ℕ
fault_name f = (number_and_name f).1

-- the fault of a request whose expression has this fault
abbrev pub text_fault : ExprFault → Fault
text_fault expr.ShapeMismatch = ShapeMismatch
text_fault expr.OutOfRange = OutOfRange
text_fault expr.TooLarge = TooLarge
