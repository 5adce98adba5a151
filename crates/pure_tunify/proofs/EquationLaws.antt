-- Pairs that stand for the pair of an equation.
use Rattle.std.proofs.Common.{◌≡◌, List, [], ◌∷◌, refl}
use Rattle.pure_definitions.specs.Names.{fun_name}
use Rattle.pure_definitions.specs.Types.Typ.{Typ, arrow}
use Rattle.pure_definitions.specs.Types.Order.{Algebra}
use Rattle.pure_text.specs.Lists.{Each}
use Rattle.pure_tunify.specs.declared.pair.TypPair.{TypPair}
use Rattle.pure_tunify.specs.declared.meeting.Turned.{Turned}
use Rattle.pure_tunify.specs.declared.meeting.Turned.TheVariants.{Further, Never, Large}
use Rattle.pure_tunify.specs.Unifiers.{IsOldPair}
use Rattle.pure_tunify.specs.Steps.{pair}
use Rattle.pure_tunify.specs.Settings.{Progress}
use Rattle.pure_tunify.specs.Meeting.{StandsFor, IsPursuit}
use Rattle.pure_tunify.proofs.PursueLaws.{goes_same, goes_then, goes_stops, meet_arguments}

-- A pair stands for itself.
pub stands_itself : (p : TypPair) → StandsFor p (p ∷ [])
stands_itself p A now = goes_same A now (p ∷ [])

-- The pairs of the domains and of the ranges stand for that of two types of functions.
pub parts_stand : (fun t u domain range : Typ) (work : List TypPair) → fun ≡ arrow t u → work ≡ pair t domain ∷ pair u range ∷ [] → StandsFor (pair fun (arrow domain range)) work
parts_stand fun t u domain range work is parts A now =
    meet_arguments A now [] work fun (arrow domain range) (record { name = fun_name; lefts = t ∷ u ∷ []; rights = domain ∷ range ∷ []; left = is; right = refl; many = refl }) parts

-- What stands for an old pair is old.
pub stands_old : (p : TypPair) (work : List TypPair) (A : Algebra) (now : Progress) → StandsFor p work → IsOldPair now.index now.next p → Each (IsOldPair now.index now.next) work
stands_old p work A now stands old = (stands A now).kept (old, tt)

-- What comes of pairs comes of the pair that they stand for.
pub stands_pursuit : (A : Algebra) (old new : Progress) (p : TypPair) (work after : List TypPair) (turned : Turned) → StandsFor p work → IsPursuit A old new work after turned → IsPursuit A old new (p ∷ []) after turned
stands_pursuit A old new p work after Further stands h = goes_then A old old new (p ∷ []) work [] (stands A old) h
stands_pursuit A old new p work after Never stands h = goes_stops A old old (p ∷ []) work (stands A old) h
stands_pursuit A old new p work after Large stands h = (goes_then A old old new (p ∷ []) work after (stands A old) h.0, h.1)
