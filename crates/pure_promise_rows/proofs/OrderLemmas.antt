-- One lemma more behind others in order.
use Rattle.std.proofs.Common.{◌≡◌, ℕ, ◌+◌, ◌<◌, List, [], ◌∷◌, ◌++◌, refl, ap, subst, map, take, get_or, length}
use Rattle.std.specs.declared.cmp.Ordering.TheVariants.{Less}
use Rattle.pure_text.specs.Lists.{IsIn, Each}
use Rattle.pure_text.proofs.ListLaws.{each_at, each_of, each-append, in-append_left}
use Rattle.pure_text.proofs.LoopLaws.{longer_by}
use Rattle.pure_definitions.specs.Names.{Label}
use Rattle.pure_theorem.specs.Sets.{label_cmp}
use Rattle.pure_theorem.proofs.SetLaws.{no_labels}
use Rattle.pure_promise_fates.specs.Entries.{Shown, Entry, RestsOnEarlier, AreEntries}
use Rattle.pure_promise_fates.proofs.LabelSets.{snoc_is_set}
use Rattle.pure_promise_fates.proofs.ProvedLaws.{in_mapped}

pub no_entries : AreEntries []
no_entries = record { ascend = no_labels; earlier = tt }

map-append : {A B : Type 0} (f : A → B) (xs ys : List A) → map f (xs ++ ys) ≡ map f xs ++ map f ys
map-append f [] ys = refl
map-append f (x ∷ xs) ys = ap (λ zs. f x ∷ zs) (map-append f xs ys)

rests-more : (es : List Entry) (d e : Entry) → RestsOnEarlier es e → RestsOnEarlier (es ++ d ∷ []) e
rests-more es d e h rests shown = each_of (λ k. (label_cmp k e.label ≡ Less) × IsIn k (map Entry.label (es ++ d ∷ []))) rests (λ k m.
    let w = each_at (λ k. (label_cmp k e.label ≡ Less) × IsIn k (map Entry.label es)) rests (h rests shown) k m in
    (w.0, rw (map-append Entry.label es (d ∷ [])) (in-append_left k (map Entry.label es) (d.label ∷ []) w.1)))

pub one_more : (es : List Entry) (d : Entry) → AreEntries es → Each (λ e. label_cmp e.label d.label ≡ Less) es → ((rests : List Label) → d.own ≡ Shown rests → Each (λ k. IsIn k (map Entry.label es)) rests) → AreEntries (es ++ d ∷ [])
one_more es d h below stand = record {
  ascend = rw (map-append Entry.label es (d ∷ [])) (snoc_is_set (map Entry.label es) d.label h.ascend (λ l m. before l m));
  earlier = each-append (RestsOnEarlier (es ++ d ∷ [])) es (d ∷ []) (each_of (RestsOnEarlier (es ++ d ∷ [])) es (λ e m. rests-more es d e (each_at (RestsOnEarlier es) es h.earlier e m))) (last, tt);
}
  where
    before : (l : Label) → IsIn l (map Entry.label es) → label_cmp l d.label ≡ Less
    before l m = (let w = in_mapped Entry.label l es m in subst (λ k. label_cmp k d.label ≡ Less) w.2 (each_at (λ e. label_cmp e.label d.label ≡ Less) es below w.0 w.1))

    last : RestsOnEarlier (es ++ d ∷ []) d
    last rests shown = each_of (λ k. (label_cmp k d.label ≡ Less) × IsIn k (map Entry.label (es ++ d ∷ []))) rests (λ k m.
        let among = each_at (λ k. IsIn k (map Entry.label es)) rests (stand rests shown) k m in
        (before k among, rw (map-append Entry.label es (d ∷ [])) (in-append_left k (map Entry.label es) (d.label ∷ []) among)))

-- a turn of the walk over what is seen as entries
pub one_turn : {A : Type 0} (f : A → Entry) (xs : List A) (i : ℕ) (r : A) → i < length xs → r ≡ get_or xs i r → AreEntries (map f (take i xs)) → Each (λ e. label_cmp e.label (f r).label ≡ Less) (map f (take i xs))
    → ((rests : List Label) → (f r).own ≡ Shown rests → Each (λ k. IsIn k (map Entry.label (map f (take i xs)))) rests) → AreEntries (map f (take (i + 1) xs))
one_turn f xs i r within is h below stand = rw (longer_by xs i r within is, map-append f (take i xs) (r ∷ [])) (one_more (map f (take i xs)) (f r) h below stand)
