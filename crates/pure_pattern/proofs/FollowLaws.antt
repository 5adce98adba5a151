-- Runs, as far as they are held.
use Rattle.std.proofs.Common.{◌≡◌, ◌∙◌, ℕ, ◌+◌, ◌<◌, ◌≤◌, inl, inr, List, [], ◌∷◌, ◌++◌, map, reverse, Bool, true, false, nat_lt, ap, refl, sym, subst, arith}
use Rattle.std.proofs.lemmas.Bool.Decides.{nat_tests}
use Rattle.std.proofs.lemmas.List.{append_assoc, append-nil}
use Rattle.std.specs.Prelude.{if◌then◌else◌, Result, Ok, Err}
use Rattle.std.specs.List.{list_any}
use Rattle.pure_text.specs.Lists.{IsIn, Each}
use Rattle.pure_text.proofs.ListLaws.{each_at, each-append, each-left, each-right}
use Rattle.pure_definitions.specs.Terms.Term.{Term, term_eq}
use Rattle.pure_definitions.specs.Terms.Subst.{TermBind, term_variable, term_image}
use Rattle.pure_logic.specs.Derivable.{Pair}
use Rattle.pure_unify_definitions.specs.Fronts.{pair_variables}
use Rattle.pure_unify_final.specs.Laws.{AreVariablesUpTo}
use Rattle.pure_pattern_laws.specs.Patterns.{IsPatternPair}
use Rattle.pure_pattern_laws.specs.Treatment.{Becomes, Sets, Never, IsTreated}
use Rattle.pure_pattern_laws.specs.Steps as steps
use Rattle.pure_pattern_laws.specs.Steps.{State, start, IsWithinState, Follows, Outcome, Solved, Runs, given_binds, max_steps}
use Rattle.pure_pattern_laws.specs.Answers.{AreReady, AreLongOfOneTyp}
use Rattle.pure_pattern_laws.proofs.SoundLaws.{start-ready}
use Rattle.pure_pattern_bounds.specs.Covered.{IsCovered}
use Rattle.pure_pattern_bounds.proofs.StateLaws.{start_is_covered, replaced_is_covered, set_is_covered, covered_is_within}
use Rattle.pure_pattern_rules.specs.Treated.{AreSidesWithin, AreBindsWithin}
use Rattle.pure_pattern.specs.declared.state.Held.{Held}
use Rattle.pure_pattern.specs.declared.fault.PatternFault.{PatternFault}
use Rattle.pure_pattern.specs.declared.fault.PatternFault.TheVariants.{SchematicType, NotPattern, NoUnifier, Steps, Big, Memory}
use Rattle.pure_pattern_bounds.specs.Put.{pair_put, bind_put, state_put}
use Rattle.pure_pattern.specs.Held.{seen, behind, IsLowPair, IsLowImage, IsImageWithin, IsMadeState}
use Rattle.pure_pattern.specs.Followed.{kept, IsFollowed, IsGivenSet, AreBeyond, IsStepped, AreSolvedUpTo, IsDecided}
use Rattle.pure_pattern.proofs.ListLaws.{map-reverse, each-reverse, each-back, first-last}
use Rattle.pure_pattern.proofs.PartLaws.{becomes-within, low-pairs, low-images}
use Rattle.pure_pattern.proofs.StepLaws.{set-follows}
use Rattle.pure_pattern.proofs.RunLaws.{goes-on, begins}
use Rattle.pure_pattern.proofs.GivenLaws.{none-above_pairs}

-- The entries that are held.
pub kept-each : (P : TermBind → Type 0) (n : ℕ) (bs : List TermBind) → Each P bs → Each P (kept n bs)
kept-each P n [] h = tt
kept-each P n (b ∷ bs) h = by_test (nat_lt n b.index) (kept-each P n bs h.1)
  where
    by_test : (test : Bool) → Each P (kept n bs) → Each P (if test then kept n bs else (b ∷ kept n bs))
    by_test true k = k
    by_test false k = (h.0, k)

kept-in : (n : ℕ) (bs : List TermBind) (b : TermBind) → IsIn b bs → b.index ≤ n → IsIn b (kept n bs)
kept-in n [] b m low = absurd m
kept-in n (c ∷ bs) b (inl e) low = by_test (nat_lt n c.index) refl
  where
    same : b.index ≡ c.index
    same = ap (λ (d : TermBind). d.index) e

    by_test : (test : Bool) → nat_lt n c.index ≡ test → IsIn b (if test then kept n bs else (c ∷ kept n bs))
    by_test true t = (let k = same in absurd (grind (arith, nat_tests)))
    by_test false t = inl e
kept-in n (c ∷ bs) b (inr m) low = by_test (nat_lt n c.index) (kept-in n bs b m low)
  where
    by_test : (test : Bool) → IsIn b (kept n bs) → IsIn b (if test then kept n bs else (c ∷ kept n bs))
    by_test true k = k
    by_test false k = inr k

kept-map : (terms : Term → Term) (n : ℕ) (bs : List TermBind) → kept n (map (bind_put terms) bs) ≡ map (bind_put terms) (kept n bs)
kept-map terms n [] = refl
kept-map terms n (b ∷ bs) = by_test (nat_lt n b.index) (kept-map terms n bs)
  where
    by_test : (test : Bool) → kept n (map (bind_put terms) bs) ≡ map (bind_put terms) (kept n bs) → (if test then kept n (map (bind_put terms) bs) else (bind_put terms b ∷ kept n (map (bind_put terms) bs))) ≡ map (bind_put terms) (if test then kept n bs else (b ∷ kept n bs))
    by_test true e = e
    by_test false e = ap (λ cs. bind_put terms b ∷ cs) e

pub kept-append : (n : ℕ) (bs cs : List TermBind) → kept n (bs ++ cs) ≡ kept n bs ++ kept n cs
kept-append n [] cs = refl
kept-append n (b ∷ bs) cs = by_test (nat_lt n b.index) (kept-append n bs cs)
  where
    by_test : (test : Bool) → kept n (bs ++ cs) ≡ kept n bs ++ kept n cs → (if test then kept n (bs ++ cs) else (b ∷ kept n (bs ++ cs))) ≡ (if test then kept n bs else (b ∷ kept n bs)) ++ kept n cs
    by_test true e = e
    by_test false e = ap (λ ds. b ∷ ds) e

pub kept-more : (n : ℕ) (made left rest whole : List TermBind) (b : TermBind) → made ++ kept n left ≡ whole → left ≡ b ∷ rest → (made ++ kept n (b ∷ [])) ++ kept n rest ≡ whole
kept-more n made left rest whole b e is =
    append_assoc made (kept n (b ∷ [])) (kept n rest) ∙ (ap (λ zs. made ++ zs) (sym (ap (kept n) is ∙ kept-append n (b ∷ []) rest)) ∙ e)

-- The entries of the given variables are among them.
given-kept : (n : ℕ) (ps : List Pair) (bs : List TermBind) → Each (AreVariablesUpTo n) ps → given_binds ps (kept n bs) ≡ given_binds ps bs
given-kept n ps [] h = refl
given-kept n ps (b ∷ bs) h = by_test (nat_lt n b.index) refl (given-kept n ps bs h)
  where
    stands : Bool
    stands = list_any (term_eq (term_variable b)) (pair_variables ps)

    passed : (test : Bool) → test ≡ false → given_binds ps bs ≡ (if test then (b ∷ given_binds ps bs) else given_binds ps bs)
    passed true e = absurd (cc)
    passed false e = refl

    taken : (test : Bool) → given_binds ps (kept n bs) ≡ given_binds ps bs → (if test then (b ∷ given_binds ps (kept n bs)) else given_binds ps (kept n bs)) ≡ (if test then (b ∷ given_binds ps bs) else given_binds ps bs)
    taken true e = ap (λ ds. b ∷ ds) e
    taken false e = e

    by_test : (test : Bool) → nat_lt n b.index ≡ test → given_binds ps (kept n bs) ≡ given_binds ps bs
        → given_binds ps (if test then kept n bs else (b ∷ kept n bs)) ≡ (if list_any (term_eq (term_variable b)) (pair_variables ps) then (b ∷ given_binds ps bs) else given_binds ps bs)
    by_test true t e = (let less : n < b.index = grind (arith, nat_tests) in e ∙ passed (list_any (term_eq (term_variable b)) (pair_variables ps)) (none-above_pairs n b.name b.index b.typ less ps h))
    by_test false t e = taken (list_any (term_eq (term_variable b)) (pair_variables ps)) e

pub given-same : (n : ℕ) (ps : List Pair) (all bs : List TermBind) → Each (AreVariablesUpTo n) ps → kept n all ≡ bs → given_binds ps bs ≡ given_binds ps all
given-same n ps all bs h e = ap (given_binds ps) (sym e) ∙ given-kept n ps all h

-- Steps.
pub followed-again : (maxidx n : ℕ) (o : State) (ps qs : List Pair) (bs cs : List TermBind) → IsFollowed maxidx n o ps bs → ps ≡ qs → bs ≡ cs → IsFollowed maxidx n o qs cs
followed-again maxidx n o ps qs bs cs f e d = record { state = f.state; reached = f.reached; covered = f.covered; pairs = f.pairs ∙ e; binds = f.binds ∙ d }

pub begun : (maxidx : ℕ) (ps : List Pair) → AreReady maxidx ps → Each IsPatternPair ps → Each AreSidesWithin ps → IsFollowed maxidx 0 (start ps) ps []
begun maxidx ps ready patterns within = record {
  state = start ps;
  reached = begins maxidx (start ps) (start ps) refl (start-ready maxidx ps ready patterns) (record { sides = within; images = tt });
  covered = start_is_covered maxidx ps ready.indexes;
  pairs = refl;
  binds = refl;
}

module _ (maxidx n : ℕ) (o : State) (p : Pair) (ps : List Pair) (bs : List TermBind) (f : IsFollowed maxidx n o (p ∷ ps) bs) where
  pub followed-long : Each AreLongOfOneTyp (p ∷ ps)
  followed-long = subst (Each AreLongOfOneTyp) f.pairs f.reached.patterns.long

  pub followed-patterns : Each IsPatternPair (p ∷ ps)
  followed-patterns = subst (Each IsPatternPair) f.pairs f.reached.patterns.patterns

  pub followed-sides : Each AreSidesWithin (p ∷ ps)
  followed-sides = subst (Each AreSidesWithin) f.pairs f.reached.within.sides

  pub followed-low : Each IsLowPair (p ∷ ps)
  followed-low = low-pairs (p ∷ ps) followed-long followed-sides

  pub followed-images : Each IsImageWithin bs
  followed-images = subst (Each IsImageWithin) f.binds (kept-each IsImageWithin maxidx f.state.binds f.reached.within.images)

  pub followed-low_images : Each IsLowImage bs
  followed-low_images = subst (Each IsLowImage) f.binds (kept-each IsLowImage maxidx f.state.binds (low-images f.state.binds f.reached.patterns.binds f.reached.within.images))

  module _ (less : n < max_steps) where
    pub followed-replaced : (qs : List Pair) → IsTreated (maxidx + (n + 1)) p.left p.right (Becomes qs) → IsFollowed maxidx (n + 1) o (qs ++ ps) bs
    followed-replaced qs treated =
        let index = maxidx + (n + 1) in
        let inner = becomes-within index p qs treated followed-sides.0 in record {
          state = record { pairs = qs ++ ps; binds = f.state.binds };
          reached = goes-on maxidx n o f.state (record { pairs = qs ++ ps; binds = f.state.binds }) f.reached less (Follows.replaced f.pairs treated) (record { sides = each-append AreSidesWithin qs ps inner followed-sides.1; images = f.reached.within.images });
          covered = replaced_is_covered index maxidx p ps qs f.state.binds treated (subst (λ rs. IsCovered maxidx (record { pairs = rs; binds = f.state.binds })) f.pairs f.covered);
          pairs = refl;
          binds = f.binds;
        }

    pub followed-never : IsTreated (maxidx + (n + 1)) p.left p.right Never → Runs maxidx 0 o steps.NoUnifier
    followed-never treated = f.reached.back steps.NoUnifier (Runs.never f.reached.within less (record { first = p; rest = ps; are = f.pairs; never = treated }))

    pub followed-set : (cs : List TermBind) → IsTreated (maxidx + (n + 1)) p.left p.right (Sets cs) → Each AreSidesWithin (map (pair_put (term_image cs)) (p ∷ ps)) → Each IsImageWithin (map (bind_put (term_image cs)) bs ++ kept maxidx cs)
        → IsFollowed maxidx (n + 1) o (map (pair_put (term_image cs)) (p ∷ ps)) (map (bind_put (term_image cs)) bs ++ kept maxidx cs)
    followed-set cs treated sides low =
        let index = maxidx + (n + 1) in
        let terms = term_image cs in
        let m = state_put cs f.state in
        let pairs : map (pair_put terms) f.state.pairs ≡ map (pair_put terms) (p ∷ ps) = ap (map (pair_put terms)) f.pairs in
        let binds : kept maxidx (map (bind_put terms) f.state.binds ++ cs) ≡ map (bind_put terms) bs ++ kept maxidx cs =
        kept-append maxidx (map (bind_put terms) f.state.binds) cs ∙ ap (λ ds. ds ++ kept maxidx cs) (kept-map terms maxidx f.state.binds ∙ ap (map (bind_put terms)) f.binds) in
        let covered = set_is_covered index maxidx p ps cs f.state f.pairs followed-sides.0 f.reached.patterns treated f.covered in
        let lows : Each IsImageWithin (kept maxidx (map (bind_put terms) f.state.binds ++ cs)) = subst (Each IsImageWithin) (sym binds) low in
        let within = covered_is_within maxidx m covered (subst (Each AreSidesWithin) (sym pairs) sides) (λ b k small. each_at IsImageWithin (kept maxidx (map (bind_put terms) f.state.binds ++ cs)) lows b (kept-in maxidx (map (bind_put terms) f.state.binds ++ cs) b k small)) in record {
          state = m;
          reached = goes-on maxidx n o f.state m f.reached less (set-follows index f.state p ps cs f.pairs f.reached.patterns treated) within;
          covered = covered;
          pairs = pairs;
          binds = binds;
        }

    -- The state that follows isn't within the limits.
    followed-large : (cs : List TermBind) → IsTreated (maxidx + (n + 1)) p.left p.right (Sets cs) → (¬ IsWithinState (state_put cs f.state)) → Runs maxidx 0 o steps.Big
    followed-large cs treated k = f.reached.back steps.Big (Runs.next f.reached.within less (set-follows (maxidx + (n + 1)) f.state p ps cs f.pairs f.reached.patterns treated) (Runs.big k))

    pub followed-new : (cs : List TermBind) × IsTreated (maxidx + (n + 1)) p.left p.right (Sets cs) × (¬ AreBindsWithin cs) → Runs maxidx 0 o steps.Big
    followed-new k = followed-large k.0 k.1 (λ w. k.2 (each-right IsImageWithin (map (bind_put (term_image k.0)) f.state.binds) k.0 w.images))

    pub followed-beyond : (cs : List TermBind) (rs : List Pair) → IsTreated (maxidx + (n + 1)) p.left p.right (Sets cs) → reverse rs ≡ p ∷ ps → AreBeyond cs rs bs → Runs maxidx 0 o steps.Big
    followed-beyond cs rs treated e (inl k) = followed-large cs treated (λ w. k (each-back AreSidesWithin (map (pair_put (term_image cs)) rs) (subst (Each AreSidesWithin) (ap (map (pair_put (term_image cs))) (f.pairs ∙ sym e) ∙ map-reverse (pair_put (term_image cs)) rs) w.sides)))
    followed-beyond cs rs treated e (inr k) =
        let olds = map (bind_put (term_image cs)) f.state.binds in
        let held : kept maxidx olds ≡ map (bind_put (term_image cs)) bs = kept-map (term_image cs) maxidx f.state.binds ∙ ap (map (bind_put (term_image cs))) f.binds in
        followed-large cs treated (λ w. k (subst (Each IsImageWithin) held (kept-each IsImageWithin maxidx olds (each-left IsImageWithin olds cs w.images))))

  pub followed-out : n ≡ max_steps → Runs maxidx 0 o steps.Steps
  followed-out e = f.reached.back steps.Steps (Runs.out_of_steps f.reached.within f.pairs e)

pub followed-over : (maxidx n : ℕ) (o : State) (ps : List Pair) (bs : List TermBind) → IsFollowed maxidx n o ps bs → ps ≡ [] → AreSolvedUpTo maxidx o bs
followed-over maxidx n o ps bs f none = record {
  all = f.state.binds;
  run = f.reached.back (Solved f.state.binds) (Runs.over f.reached.within (f.pairs ∙ none));
  are = f.binds;
}

-- The answers of a step.
pub replaced-stepped : (maxidx n : ℕ) (o : State) (p : Pair) (h : Held) (qs : List Pair) (r : Result Held PatternFault) → IsFollowed maxidx n o (p ∷ (seen h).pairs) h.binds.items → n < max_steps → IsTreated (maxidx + (n + 1)) p.left p.right (Becomes qs)
    → IsMadeState (record { pairs = qs ++ (seen h).pairs; binds = (seen h).binds }) r → IsStepped maxidx (n + 1) o r
replaced-stepped maxidx n o p h qs (Ok g) f less treated k =
    followed-again maxidx (n + 1) o (qs ++ (seen h).pairs) (reverse g.pairs.items) h.binds.items g.binds.items (followed-replaced maxidx n o p (seen h).pairs h.binds.items f less qs treated) (sym (ap (λ (s : State). s.pairs) k.0)) (sym (ap (λ (s : State). s.binds) k.0))
replaced-stepped maxidx n o p h qs (Err Big) f less treated k = absurd k
replaced-stepped maxidx n o p h qs (Err Memory) f less treated k = tt
replaced-stepped maxidx n o p h qs (Err NoUnifier) f less treated k = absurd k
replaced-stepped maxidx n o p h qs (Err Steps) f less treated k = absurd k
replaced-stepped maxidx n o p h qs (Err (SchematicType i)) f less treated k = absurd k
replaced-stepped maxidx n o p h qs (Err (NotPattern i)) f less treated k = absurd k

pub set-stepped : (maxidx n : ℕ) (o : State) (p : Pair) (h : Held) (cs : List TermBind) (r : Result Held PatternFault) → IsFollowed maxidx n o (p ∷ (seen h).pairs) h.binds.items → n < max_steps → IsTreated (maxidx + (n + 1)) p.left p.right (Sets cs)
    → IsGivenSet maxidx cs p h r → IsStepped maxidx (n + 1) o r
set-stepped maxidx n o p h cs (Ok g) f less treated k =
    let terms = term_image cs in
    let back : reverse g.pairs.items ≡ map (pair_put terms) (p ∷ (seen h).pairs) =
    ap reverse k.are ∙ (sym (map-reverse (pair_put terms) (h.pairs.items ++ p ∷ [])) ∙ ap (map (pair_put terms)) (first-last h.pairs.items p)) in
    let sides = subst (Each AreSidesWithin) back (each-reverse AreSidesWithin g.pairs.items k.within) in
    let low = subst (Each IsImageWithin) k.entries k.images in
    followed-again maxidx (n + 1) o (map (pair_put terms) (p ∷ (seen h).pairs)) (reverse g.pairs.items) (map (bind_put terms) h.binds.items ++ kept maxidx cs) g.binds.items
    (followed-set maxidx n o p (seen h).pairs h.binds.items f less cs treated sides low) (sym back) (sym k.entries)
set-stepped maxidx n o p h cs (Err Big) f less treated k = followed-beyond maxidx n o p (seen h).pairs h.binds.items f less cs (h.pairs.items ++ p ∷ []) treated (first-last h.pairs.items p) k
set-stepped maxidx n o p h cs (Err Memory) f less treated k = tt
set-stepped maxidx n o p h cs (Err NoUnifier) f less treated k = absurd k
set-stepped maxidx n o p h cs (Err Steps) f less treated k = absurd k
set-stepped maxidx n o p h cs (Err (SchematicType i)) f less treated k = absurd k
set-stepped maxidx n o p h cs (Err (NotPattern i)) f less treated k = absurd k

pub halted : (maxidx n : ℕ) (o : State) (fault : PatternFault) → IsStepped maxidx n o (Err fault) → IsDecided maxidx o (Err fault)
halted maxidx n o NoUnifier h = h
halted maxidx n o Big h = h
halted maxidx n o Memory h = tt
halted maxidx n o Steps h = absurd h
halted maxidx n o (SchematicType i) h = absurd h
halted maxidx n o (NotPattern i) h = absurd h

-- States as they are held.
pub followed-held : (maxidx n : ℕ) (o s : State) (h : Held) → IsFollowed maxidx n o s.pairs s.binds → seen h ≡ s → IsFollowed maxidx n o (reverse h.pairs.items) h.binds.items
followed-held maxidx n o s h f e = followed-again maxidx n o s.pairs (reverse h.pairs.items) s.binds h.binds.items f (sym (ap (λ (m : State). m.pairs) e)) (sym (ap (λ (m : State). m.binds) e))

pub followed-behind : (maxidx n : ℕ) (o : State) (old new : Held) (p : Pair) → IsFollowed maxidx n o (reverse old.pairs.items) old.binds.items → seen old ≡ behind p new → IsFollowed maxidx n o (p ∷ (seen new).pairs) new.binds.items
followed-behind maxidx n o old new p f e = followed-again maxidx n o (reverse old.pairs.items) (p ∷ (seen new).pairs) old.binds.items new.binds.items f (ap (λ (m : State). m.pairs) e) (ap (λ (m : State). m.binds) e)

pub followed-none : (maxidx n : ℕ) (o : State) (old new : Held) → IsFollowed maxidx n o (reverse old.pairs.items) old.binds.items → (seen old).pairs ≡ [] → seen new ≡ seen old → AreSolvedUpTo maxidx o new.binds.items
followed-none maxidx n o old new f none e = subst (AreSolvedUpTo maxidx o) (sym (ap (λ (m : State). m.binds) e)) (followed-over maxidx n o (reverse old.pairs.items) old.binds.items f none)

pub kept-none : (n : ℕ) (bs : List TermBind) (b : TermBind) → n < b.index → bs ≡ bs ++ kept n (b ∷ [])
kept-none n bs b less = by_test (nat_lt n b.index) refl
  where
    by_test : (test : Bool) → nat_lt n b.index ≡ test → bs ≡ bs ++ (if test then [] else (b ∷ []))
    by_test true t = sym (append-nil bs)
    by_test false t = absurd (grind (arith, nat_tests))

pub kept-one : (n : ℕ) (bs : List TermBind) (b : TermBind) → b.index ≤ n → bs ++ b ∷ [] ≡ bs ++ kept n (b ∷ [])
kept-one n bs b low = by_test (nat_lt n b.index) refl
  where
    by_test : (test : Bool) → nat_lt n b.index ≡ test → bs ++ b ∷ [] ≡ bs ++ (if test then [] else (b ∷ []))
    by_test true t = absurd (grind (arith, nat_tests))
    by_test false t = refl
