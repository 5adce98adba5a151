use Rattle.std.proofs.Common.{◌≡◌, ◌+◌, ◌*◌, List, map, take}
use Rattle.pure_definitions.specs.Types.Typ.{Typ, typ_depth, typs_depth, typs_of}
use Rattle.pure_definitions.specs.Terms.Subst.{typ_image, typ_instance}
use Rattle.pure_tunify.specs.Occurrences.{schematics_of}
use Rattle.pure_elab.specs.Numbered.{numbered}
use Rattle.pure_elab.specs.Numbering.{image_of}
use Rattle.pure_elab.specs.Numbers.{entries}
use Rattle.pure_elab.proofs.numbered.+number_typ.Given as goal

abbrev pub decreases-number_typ : goal.decreases-number_typ
decreases-number_typ l = 2 * typ_depth l.t.now

abbrev pub decreases-number_typs : goal.decreases-number_typs
decreases-number_typs l = 2 * typs_depth (typs_of l.types.now) + 1

abbrev pub decreases-number_twice : goal.decreases-number_twice
decreases-number_twice l = 2 * typ_depth l.part.now + 1

-- the variables of the types so far are numbered, and these types have their images in their places
abbrev pub invariant-number_typs-loop-typ : goal.invariant-number_typs-loop-typ
invariant-number_typs-loop-typ l =
    (entries (image_of l.numbering) l.first l.numbers ≡ numbered (image_of l.numbering) l.first (entries (image_of l.numbering) l.first l.initial.numbers) (schematics_of (typs_of (take l.typ-index l.types))))
    × ((more : List Typ) → l.images.items ≡ map (typ_instance (typ_image (numbered (image_of l.numbering) l.first (entries (image_of l.numbering) l.first l.numbers) more))) (take l.typ-index l.types))
