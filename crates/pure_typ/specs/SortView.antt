-- What the classes of a sort are seen as.
use Rattle.std.specs.Prelude.{List, ℕ, []}
use Rattle.pure_typ.specs.declared.sort.Classes.{Classes}
use Rattle.pure_typ.specs.declared.sort.Classes.TheVariants.{Empty, Shared}

abbrev pub classes_list : Classes → List ℕ
classes_list Empty = []
classes_list (Shared list) = list.value.items
