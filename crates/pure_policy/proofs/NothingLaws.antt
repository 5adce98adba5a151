-- Where no cancellation is asked for, no lemma is cancelled, and that is all that the policy says.
use Rattle.std.specs.Prelude.{◌≡◌, ℕ, ◌+◌, ◌<◌, ◌≤◌, Bool, true, false, IsTrue, cond, ◌&&◌, ◌||◌, List, [], ◌∷◌, ◌++◌, nat_le, nat_eq}
use Rattle.std.proofs.Common.{true≢false, refl, ap, sym, ◌∙◌, subst}
use Rattle.std.specs.List.{list_any}
use Rattle.std.proofs.lemmas.List.Sums.{sum_by-cons}
use Rattle.pure_text.specs.Lists.{Each}
use Rattle.pure_graph.specs.Order.{Loaded}
use Rattle.pure_policy_laws.specs.Heeded.{Lot, faults, gone_in}
use Rattle.pure_policy.specs.Asked.{Asked}
use Rattle.pure_policy.specs.Heeded.{kept_of, has_come, is_licensed}
use Rattle.pure_policy.specs.Laws.{NothingIsHeeded, NothingIsCancelled}

abbrev IsKeptLot : Lot → Type 0
IsKeptLot l = l.gone ≡ false

front : (before after : List Lot) (l : Lot) (ls : List Lot) → ls ≡ before ++ l ∷ after → Each IsKeptLot ls → Each IsKeptLot before × IsKeptLot l
front before after l ls is kept = split before (subst (Each IsKeptLot) is kept)
  where
    split : (before : List Lot) → Each IsKeptLot (before ++ l ∷ after) → Each IsKeptLot before × IsKeptLot l
    split [] (k, ks) = (_, k)
    split (b ∷ before) (k, ks) = let rest = split before ks in ((k, rest.0), rest.1)

none_gone : (theory : ℕ) (ls : List Lot) → Each IsKeptLot ls → gone_in theory ls ≡ 0
none_gone theory [] kept = refl
none_gone theory (l ∷ ls) (k, ks) = sum_by-cons (λ (l : Lot). cond (l.gone && nat_eq l.theory theory) 1 0) l ls ∙ ap (λ b. cond (b && nat_eq l.theory theory) 1 0 + gone_in theory ls) k ∙ ap (λ n. 0 + n) (none_gone theory ls ks)

-- Nothing may be cancelled.
unlicensed : (theories : List Loaded) (asked : Asked) (ls : List Lot) (l : Lot) → asked.fail_fast ≡ false → asked.cancels ≡ [] → is_licensed theories asked ls l ≡ false
unlicensed theories asked ls l slow kept = ap (λ b. (b && nat_le 1 (faults ls)) || list_any (has_come theories ls l) asked.cancels) slow ∙ ap (λ cs. list_any (has_come theories ls l) cs) kept

all_licensed : (P : Lot → Type 0) (ls : List Lot) → Each IsKeptLot ls → Each (λ l. IsTrue l.gone → P l) ls
all_licensed P [] kept = _
all_licensed P (l ∷ ls) (k, ks) = ((λ gone. absurd (true≢false (sym gone ∙ k))), all_licensed P ls ks)

pub nothing_heeded : NothingIsHeeded
nothing_heeded theories asked ls slow kept workers all = record {
  licensed = all_licensed (λ l. IsTrue (is_licensed theories asked ls l)) ls all;
  one_fault = λ fast. absurd (true≢false (sym fast ∙ slow));
  obeyed = subst (Each (λ c. kept_of theories c.group ls ≤ c.after)) (sym kept) _;
  in_order = λ before after l is gone. subst (λ n. n < asked.workers) (sym (none_gone l.theory before (front before after l ls is all).0)) workers;
  one_worker = λ one before after l is. (front before after l ls is all).1 ∙ sym (unlicensed theories asked before l slow kept);
}

pub nothing_cancelled : NothingIsCancelled
nothing_cancelled theories asked ls slow kept heeded = each ls heeded.licensed
  where
    untrue : (b : Bool) → (IsTrue b → ⊥) → b ≡ false
    untrue true denied = absurd (denied refl)
    untrue false denied = refl

    each : (ms : List Lot) → Each (λ l. IsTrue l.gone → IsTrue (is_licensed theories asked ls l)) ms → Each IsKeptLot ms
    each [] licensed = _
    each (m ∷ ms) (is, rest) = (untrue m.gone (λ gone. true≢false (sym (is gone) ∙ unlicensed theories asked ls m slow kept)), each ms rest)
