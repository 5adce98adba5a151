-- Entries that are kept in a list while they are few.
use Rattle.std.proofs.Common.{◌≡◌, List, [], ◌∷◌, ◌++◌, map, Option, None, Some, Result, Ok, Err, MatchResult, false, sym, subst}
use Rattle.std.specs.Option.{is_some}
use Rattle.pure_text.specs.Lists.{IsIn}
use Rattle.pure_text.proofs.ListLaws.{distinct-map_snoc}
use Rattle.pure_definitions.specs.Terms.Subst.{TypBind, IsTypMap, typ_variable}
use Rattle.pure_tunify.specs.Stored.{entries_of}

-- Without a map, the entries are still for distinct variables when one for another variable was put behind them, or the list has stayed as it was.
pub still_distinct : {T E : Type 0} (few later : List TypBind) (many : Option (List TypBind)) (old : List TypBind) (b : TypBind) (r : Result T E) → is_some many ≡ false → entries_of few many ≡ old → IsTypMap (entries_of few many) → (¬ IsIn (typ_variable b) (map typ_variable old)) →
    MatchResult r (λ _. later ≡ few ++ b ∷ []) (λ _. later ≡ few) → IsTypMap (entries_of later many)
still_distinct few later None old b (Ok _) list are distinct new put =
    subst IsTypMap (sym put) (distinct-map_snoc typ_variable few b distinct (subst (λ bs. ¬ IsIn (typ_variable b) (map typ_variable bs)) (sym are) new))
still_distinct few later None old b (Err _) list are distinct new put = subst IsTypMap (sym put) distinct
still_distinct few later (Some all) old b r list are distinct new put = distinct
