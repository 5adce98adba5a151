-- What one more entry adds to a listing.
use Rattle.std.proofs.Common.{◌≡◌, List, [], ◌∷◌, ◌++◌, ℕ, Option, Some, None, Ok, Err, ◌≤◌, ◌⊎◌, inl, inr, length, ap, ◌∙◌, refl, arith}
use Rattle.std.specs.Option.{option_map}
use Rattle.std.specs.Iterator.{Yields}
use Rattle.std.proofs.iter.Next.{Yields-more}
use Rattle.std.proofs.lemmas.List.{length_push}
use Rattle.std.proofs.lemmas.List.Elements.{Contains-push}
use Rattle.pure_io.specs.declared.library.LibFault.TheVariants.{Failed}
use Rattle.pure_io.specs.Entries.{Entry, ListsWithin, ListsPast, names_in}

-- a list that begins with a name has others behind it
option_map-cons : (name : List ℕ) (o : Option (List (List ℕ))) (names : List (List ℕ))
    → option_map (λ ns. name ∷ ns) o ≡ Some names → (rest : List (List ℕ)) × (o ≡ Some rest) × (name ∷ rest ≡ names)
option_map-cons name None names h = cc
option_map-cons name (Some rest) names h = (rest, refl, cc)

-- one more entry whose name isn't UTF-8
pub names_in-unnamed : (entries : List Entry) (names : List (List ℕ))
    → names_in entries ≡ Some names → names_in (entries ++ (Ok None ∷ [])) ≡ Some names
names_in-unnamed [] names h = h
names_in-unnamed (Ok None ∷ entries) names h = names_in-unnamed entries names h
names_in-unnamed (Ok (Some name) ∷ entries) names h =
    let parts = option_map-cons name (names_in entries) names h in
    ap (option_map (λ ns. name ∷ ns)) (names_in-unnamed entries parts.0 parts.1) ∙ ap Some parts.2
names_in-unnamed (Err fault ∷ entries) names h = cc

-- one more entry with a name
pub names_in-named : (entries : List Entry) (names : List (List ℕ)) (last : List ℕ)
    → names_in entries ≡ Some names → names_in (entries ++ (Ok (Some last) ∷ [])) ≡ Some (names ++ (last ∷ []))
names_in-named [] names last h = let empty : [] ≡ names = cc in ap (λ ns. Some (ns ++ (last ∷ []))) empty
names_in-named (Ok None ∷ entries) names last h = names_in-named entries names last h
names_in-named (Ok (Some name) ∷ entries) names last h =
    let parts = option_map-cons name (names_in entries) names h in
    ap (option_map (λ ns. name ∷ ns)) (names_in-named entries parts.0 last parts.1) ∙ ap (λ ns. Some (ns ++ (last ∷ []))) parts.2
names_in-named (Err fault ∷ entries) names last h = cc

-- one more entry that is past the limit, or failed
pub ListsPast-more : {S : Type 0} (steps : S → Option Entry → S → Type 0) (start : S) (limit : ℕ) (given : List Entry) (middle : S) (last : Entry) (rest : S)
    → Yields steps start given middle → steps middle (Some last) rest → (limit ≤ length given) ⊎ (last ≡ Err Failed) → ListsPast steps start limit
ListsPast-more steps start limit given middle last rest before step (inl many) = record {
  entries = given ++ (last ∷ []);
  rest = rest;
  given = Yields-more steps start given middle last rest before step;
  cause = inl (omega (arith, length_push given last));
}
ListsPast-more steps start limit given middle last rest before step (inr failed) = record {
  entries = given ++ (last ∷ []);
  rest = rest;
  given = Yields-more steps start given middle last rest before step;
  cause = inr (rw (← failed) (Contains-push given last));
}

-- what an iterator gives that steps as another one inside it
Yields-inside : {S T A : Type 0} (inside : T → S) (steps : S → Option A → S → Type 0) (s t : T) (xs : List A)
    → Yields (λ u x v. steps (inside u) x (inside v)) s xs t → Yields steps (inside s) xs (inside t)
Yields-inside inside steps s t [] same = ap inside same
Yields-inside inside steps s t (x ∷ xs) (middle, step, rest) = (inside middle, step, Yields-inside inside steps middle t xs rest)

-- a listing that an iterator gives so
pub ListsWithin-inside : {S T : Type 0} (inside : T → S) (steps : S → Option Entry → S → Type 0) (start : T) (limit : ℕ) (names : List (List ℕ))
    → ListsWithin (λ u x v. steps (inside u) x (inside v)) start limit names → ListsWithin steps (inside start) limit names
ListsWithin-inside inside steps start limit names lists = record {
  entries = lists.entries;
  drained = (inside lists.drained.0, (inside lists.drained.1.0, Yields-inside inside steps start lists.drained.1.0 lists.entries lists.drained.1.1, lists.drained.1.2));
  within = lists.within;
  named = lists.named;
}

-- a listing past its limit, or with a fault, that an iterator gives so
pub ListsPast-inside : {S T : Type 0} (inside : T → S) (steps : S → Option Entry → S → Type 0) (start : T) (limit : ℕ)
    → ListsPast (λ u x v. steps (inside u) x (inside v)) start limit → ListsPast steps (inside start) limit
ListsPast-inside inside steps start limit past = record {
  entries = past.entries;
  rest = inside past.rest;
  given = Yields-inside inside steps start past.rest past.entries past.given;
  cause = past.cause;
}
