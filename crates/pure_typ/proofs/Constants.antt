-- The constants of the code are those of the definitions.
use Rattle.std.proofs.Common.{◌≡◌, refl}
use Rattle.pure_definitions.specs.Names.{builtin_count}
use Rattle.pure_definitions.specs.Terms.Term.{max_size, max_depth}
use Rattle.pure_typ.specs.declared.measure.TheConstants.{MAX_SIZE, MAX_DEPTH}
use Rattle.pure_typ.specs.declared.name.TheConstants.{BUILTIN_COUNT}

pub size-limit : MAX_SIZE ≡ max_size
size-limit = refl

pub depth-limit : MAX_DEPTH ≡ max_depth
depth-limit = refl

pub builtins : BUILTIN_COUNT ≡ builtin_count
builtins = refl
