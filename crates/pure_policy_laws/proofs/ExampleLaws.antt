-- That each part of the condition on cancelled promises refuses something.
use Rattle.std.proofs.Common.{◌≡◌, ◌≤◌, ◌<◌, List, [], ◌∷◌, ◌++◌, refl, sym, subst, arith, append_assoc, true, false}
use Rattle.std.proofs.lemmas.List.{append-nil}
use Rattle.pure_policy_laws.specs.Heeded.{Lot, gone_in, is_licensed}
use Rattle.pure_policy_laws.specs.Examples.{good, bad, gone, second_theory, SomeAreHeeded, UnlicensedIsRefused, SecondFaultIsRefused, DisobeyedIsRefused, OutOfOrderIsRefused, ForeseenIsRefused}

pub unlicensed : UnlicensedIsRefused
unlicensed h = let no : false ≡ true = h.licensed.1.0 refl in cc

pub second_fault : SecondFaultIsRefused
second_fault h = let most : 2 ≤ 1 = h.one_fault refl in omega arith

pub disobeyed : DisobeyedIsRefused
disobeyed h = let most : 2 ≤ 1 = h.obeyed.0 in omega arith

pub out_of_order : OutOfOrderIsRefused
out_of_order h = let few : 2 < 2 = h.in_order (gone 1 ∷ gone 1 ∷ []) [] (bad 1) refl refl in omega arith

pub foreseen : ForeseenIsRefused
foreseen h = let no : true ≡ false = h.one_worker refl [] (bad 2 ∷ []) (gone 1) refl in cc

-- what holds at each cut of a list, one element after the other
abbrev AtEachCut : (List Lot → Lot → Type 0) → (front : List Lot) → List Lot → Type 0
AtEachCut P front [] = Unit {0}
AtEachCut P front (l ∷ ls) = P front l × AtEachCut P (front ++ l ∷ []) ls

at_cut : (P : List Lot → Lot → Type 0) (front ls before after : List Lot) (l : Lot) → AtEachCut P front ls → ls ≡ before ++ l ∷ after → P (front ++ before) l
at_cut P front [] [] after l each e = absurd (cc)
at_cut P front [] (b ∷ before) after l each e = absurd (cc)
at_cut P front (x ∷ ls) [] after l each e =
    let head : x ≡ l = cc in
    subst (λ f. P f l) (sym (append-nil front)) (subst (P front) head each.0)
at_cut P front (x ∷ ls) (b ∷ before) after l each e =
    let head : x ≡ b = cc in
    let tail : ls ≡ before ++ l ∷ after = cc in
    subst (λ y. P (front ++ y ∷ before) l) head (subst (λ f. P f l) (append_assoc front (x ∷ []) before) (at_cut P (front ++ x ∷ []) ls before after l each.1 tail))

pub some_heeded : SomeAreHeeded
some_heeded = (
  record {
    licensed = ((λ is. absurd (cc)), ((λ is. refl), ((λ is. absurd (cc)), ((λ is. refl), tt))));
    one_fault = λ fast. omega arith;
    obeyed = tt;
    in_order = λ before after l cut. at_cut (λ b x. x.gone ≡ false → gone_in x.theory b < 2) [] (good 1 ∷ gone 1 ∷ bad 1 ∷ gone 2 ∷ []) before after l ((λ is. omega arith), ((λ is. absurd (cc)), ((λ is. omega arith), ((λ is. absurd (cc)), tt)))) cut;
    one_worker = λ one. absurd (omega arith);
  },
  record {
    licensed = ((λ is. absurd (cc)), ((λ is. absurd (cc)), ((λ is. refl), ((λ is. absurd (cc)), tt))));
    one_fault = λ fast. absurd (cc);
    obeyed = (omega arith, tt);
    in_order = λ before after l cut. at_cut (λ b x. x.gone ≡ false → gone_in x.theory b < 1) [] (good 1 ∷ good 1 ∷ gone 2 ∷ good 3 ∷ []) before after l ((λ is. omega arith), ((λ is. omega arith), ((λ is. absurd (cc)), ((λ is. omega arith), tt)))) cut;
    one_worker = λ one before after l cut. at_cut (λ b x. x.gone ≡ is_licensed second_theory b x) [] (good 1 ∷ good 1 ∷ gone 2 ∷ good 3 ∷ []) before after l (refl, (refl, (refl, (refl, tt)))) cut;
  },
)
