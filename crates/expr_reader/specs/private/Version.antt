-- The versions and operations of the code, as profiles and operations of the table.
use Rattle.std.specs.Prelude.{ℕ, List, [], ◌∷◌, map}
use Rattle.std.specs.Borrow.{Bor}
use Rattle.tensor_ops.specs.Term as term
use Rattle.tensor_ops.specs.Term.{each, constant, movement, pad, reduce, along, pairwise}
use Rattle.tensor_ops.specs.Term.{concat, contract, convolve, taking}
use Rattle.expr_reader.specs.Arguments.{Form, size, sizes, pairs, flags, value, Arguments}
use Rattle.expr_reader.specs.Profile.{Profile, version_1, version_2, version_3}
use Rattle.expr_reader.specs.Profile as profile
use Rattle.expr_reader.specs.Profile.{profile_of, frame_profile_of}
use Rattle.expr_reader.specs.Table as table
use Rattle.expr_reader.specs.Table.{one, two, three}
use Rattle.expr_reader.specs.declared.version.Version.{Version}
use Rattle.expr_reader.specs.declared.version.Version.TheVariants as version
use Rattle.expr_reader.specs.declared.version.Versions.{Versions}
use Rattle.expr_reader.specs.declared.version.Versions.TheVariants.{OfTexts, OfFrames}
use Rattle.expr_reader.specs.declared.operation.Operation.{Operation}
use Rattle.expr_reader.specs.declared.operation.Operation.TheVariants.{One, Two, Select}
use Rattle.expr_reader.specs.declared.operation.Unary.{Unary}
use Rattle.expr_reader.specs.declared.operation.Unary.TheVariants.{Each, Constant, Broadcast}
use Rattle.expr_reader.specs.declared.operation.Unary.TheVariants.{Slice, Shuffle, Reshape}
use Rattle.expr_reader.specs.declared.operation.Unary.TheVariants.{Chip, Reverse, Stride, Pad}
use Rattle.expr_reader.specs.declared.operation.Unary.TheVariants.{Reduce, Along}
use Rattle.expr_reader.specs.declared.operation.Binary.{Binary}
use Rattle.expr_reader.specs.declared.operation.Binary.TheVariants.{Pairwise, Concat, Contract}
use Rattle.expr_reader.specs.declared.operation.Binary.TheVariants.{Convolve, Take}

-- a version of the code, as its profile
abbrev pub profile_under : Version → Profile
profile_under version.One = version_1
profile_under version.Two = version_2
profile_under version.Three = version_3

-- `Versions` of the code, as the profiles by number
abbrev pub versions_under : Versions → profile.Versions
versions_under OfTexts = profile_of
versions_under OfFrames = frame_profile_of

-- the forms of the arguments of an operation on one operand
abbrev pub forms_of : Unary → List Form
forms_of (Each o) = []
forms_of Constant = value ∷ []
forms_of Broadcast = sizes ∷ []
forms_of Slice = sizes ∷ sizes ∷ []
forms_of Shuffle = sizes ∷ []
forms_of Reshape = sizes ∷ []
forms_of Chip = size ∷ size ∷ []
forms_of Reverse = flags ∷ []
forms_of Stride = sizes ∷ []
forms_of Pad = pairs ∷ []
forms_of (Reduce r) = sizes ∷ []
forms_of (Along o) = size ∷ []

-- the operation of a term that arguments make, on one operand
abbrev pub unary_of : (u : Unary) → Arguments (forms_of u) → term.Unary
unary_of (Each o) none = each o
unary_of Constant a = constant a.0
unary_of Broadcast a = movement (term.broadcast a.0)
unary_of Slice a = movement (term.slice a.0 a.1.0)
unary_of Shuffle a = movement (term.shuffle a.0)
unary_of Reshape a = movement (term.reshape a.0)
unary_of Chip a = movement (term.chip a.0 a.1.0)
unary_of Reverse a = movement (term.reverse a.0)
unary_of Stride a = movement (term.stride a.0)
unary_of Pad a = pad a.0
unary_of (Reduce r) a = reduce r a.0
unary_of (Along o) a = along o a.0

-- the forms of the arguments of an operation on two operands
abbrev pub forms_of_two : Binary → List Form
forms_of_two (Pairwise o) = []
forms_of_two Concat = size ∷ []
forms_of_two Contract = pairs ∷ []
forms_of_two Convolve = sizes ∷ []
forms_of_two Take = size ∷ []

-- the operation of a term that arguments make, on two operands
abbrev pub binary_of : (b : Binary) → Arguments (forms_of_two b) → term.Binary
binary_of (Pairwise o) none = pairwise o
binary_of Concat a = concat a.0
binary_of Contract a = contract a.0
binary_of Convolve a = convolve a.0
binary_of Take a = taking a.0

-- an operation of the code, as one of the table
abbrev pub operation_under : Operation → table.Operation
operation_under (One u) = one (forms_of u) (unary_of u)
operation_under (Two b) = two (forms_of_two b) (binary_of b)
operation_under Select = three [] (λ none. term.select)

-- a table of the code, as operations of the table by name
abbrev pub table_under : List (Bor (List ℕ) × Operation) → List (List ℕ × table.Operation)
table_under rows = map (λ row. (row.0.now, operation_under row.1)) rows
