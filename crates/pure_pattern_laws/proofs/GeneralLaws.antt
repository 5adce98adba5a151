-- A unifier is most general, and where there is none no map solves the pairs.
use Rattle.std.proofs.Common.{◌≡◌, ℕ, ◌+◌, ◌≤◌, inl, inr, List, [], ◌∷◌, ◌++◌, ap, refl, sym, subst, ◌∙◌, arith}
use Rattle.pure_text.specs.Lists.{IsIn, Each, EachTwo}
use Rattle.pure_text.proofs.ListLaws.{each_at, each-append, in_split}
use Rattle.pure_definitions.specs.Types.Typ.{Typ}
use Rattle.pure_definitions.specs.Terms.Term.{Term, Const, Free, Var, Bound, Abs, App}
use Rattle.pure_definitions.specs.Terms.Conditions.{IsVariable}
use Rattle.pure_definitions.specs.Terms.Typing.{HasType}
use Rattle.pure_definitions.specs.Terms.Subst.{TermBind, term_variable, term_image, inst_term}
use Rattle.pure_definitions.proofs.InstanceLemmas.{term_image-fixed}
use Rattle.pure_logic.specs.Derivable.{Pair}
use Rattle.pure_reduction.specs.LongForms.{HasLongForm, HaveOneLongForm}
use Rattle.pure_unify_definitions.specs.Fronts.{head, variables, pair_variables}
use Rattle.pure_unify_final.specs.Laws.{AreVariablesUpTo, HasVariablesUpTo}
use Rattle.pure_unify_final.proofs.SideLaws.{head-rigid}
use Rattle.pure_unify_final.proofs.SpineLaws.{solved-spines, arguments-solved}
use Rattle.pure_unify_final.proofs.RuleLaws.{inst-inst}
use Rattle.pure_solutions.specs.Solutions.{IsTermSubstitution, SolvesPair, SolvesPairs}
use Rattle.pure_solutions.proofs.SolutionLaws.{long-instance, same-instances, image-typed, fixed-stays, one-long-swap, one-long-then, one-long-itself, longer-map, each_map_has_a_long_map}
use Rattle.pure_pattern_laws.specs.Patterns.{IsPatternPair}
use Rattle.pure_pattern_laws.specs.Treatment.{AreMixed, on_left, on_right, Becomes, Sets, Never, IsTreated}
use Rattle.pure_pattern_laws.specs.Steps as steps
use Rattle.pure_pattern_laws.specs.Steps.{Outcome, State, start, IsPut, IsPairPut, IsBindPut, Follows, Stops, Solved, Runs, given_binds}
use Rattle.pure_pattern_laws.specs.Answers.{AreLongOfOneTyp, AreReady, Answer, Unified, NoUnifier, answer_of, IsPatternAnswer}
use Rattle.pure_pattern_laws.specs.Laws.{IsPatternBind, IsPatternState, UnifierIsMostGeneral, NoUnifierIsFinal}
use Rattle.pure_pattern_laws.proofs.KeepLaws.{image-of, binds-long_map, left-long, right-long, mixed-long, mixed-patterns, settings_are_patterns, steps_keep_patterns}
use Rattle.pure_pattern_laws.proofs.SoundLaws.{start-ready, run-of, all-ready, given-image}
use Rattle.pure_pattern_laws.proofs.LowLaws.{IsLow, IsLowBind, IsLowState, low-head, mixed-low, step-low, start-low}
use Rattle.pure_pattern_laws.proofs.SolvedLaws.{AreLongImages}
use Rattle.pure_pattern_laws.proofs.ExtendLaws.{Fits, IsExtension, one-extension, two-extension, escapes-unsolved, occurs-fails, imitation-extension}

-- What solves a pair, its sides turned round.
mixed-solved : (terms : Term → Term) (l r f k : Term) → AreMixed l r f k → HaveOneLongForm (inst_term terms l) (inst_term terms r) → HaveOneLongForm (inst_term terms f) (inst_term terms k)
mixed-solved terms l r f k (on_left a b e g) h = subst (λ t. HaveOneLongForm (inst_term terms t) (inst_term terms k)) (sym e) (subst (λ t. HaveOneLongForm (inst_term terms l) (inst_term terms t)) (sym g) h)
mixed-solved terms l r f k (on_right a b e g) h = subst (λ t. HaveOneLongForm (inst_term terms t) (inst_term terms k)) (sym e) (subst (λ t. HaveOneLongForm (inst_term terms r) (inst_term terms t)) (sym g) (one-long-swap h))

low-index : (n : ℕ) (t : Term) (x i : ℕ) (T : Typ) → IsLow n t → head t ≡ Var x i T → i + 1 ≤ n + 1
low-index n t x i T h e = let low = subst (IsLow n) e (low-head n t h) in let bound = low.1 in omega arith

-- One treatment, under a map with images in long form.
module _ (terms : Term → Term) (s : IsTermSubstitution terms) (long : AreLongImages terms) (n : ℕ) (p : Pair) (h : AreLongOfOneTyp p) (patterns : IsPatternPair p) (solved : SolvesPair terms p) where
  set-extension : IsLow n p.left → IsLow n p.right → (bs : List TermBind) → IsTreated (n + 1) p.left p.right (Sets bs) → IsExtension (n + 1) terms bs
  set-extension low other bs (IsTreated.one_variable {x = x} {i = i} {T = T} {zs = zs} {ws = ws} {u = u} apart a b form) =
      one-extension terms s long h.typ p.left p.right (left-long p h) (right-long p h) patterns.0 patterns.1 solved (n + 1) x i T zs ws u (low-index n p.left x i T low a.variable) a b form
  set-extension low other bs (IsTreated.two_variables {x = x} {i = i} {y = y} {j = j} {T = T} {U = U} {zs = zs} {ws = ws} {u = u} {w = w} a b apart form second) =
      two-extension terms s long h.typ p.left p.right (left-long p h) (right-long p h) patterns.0 patterns.1 solved (n + 1) x i y j T U zs ws u w (low-index n p.left x i T low a.variable) (low-index n p.right y j U other b.variable) a b form second
  set-extension low other bs (IsTreated.imitates {f = f} {k = k} {h = head} {u = u} {x = x} {i = i} {T = T} {U = U} {zs = zs} mixed a absent written form) =
      let sides = mixed-long p f k h mixed in
      let both = mixed-patterns p f k patterns mixed in
      imitation-extension terms s long h.typ f k sides.0 sides.1 both.0 both.1 (mixed-solved terms p.left p.right f k mixed solved) sides.2 x i T zs a (n + 1) head u U (low-index n f x i T (mixed-low n p.left p.right f k mixed low other) a.variable) written form

  never-solved : (index : ℕ) → IsTreated index p.left p.right Never → ⊥
  never-solved index (IsTreated.clash e f apart) =
      let left = left-long p h in
      let right = right-long p h in
      apart (solved-spines terms s p.left p.right h.typ left right (head-rigid p.left left.normal e) (head-rigid p.right right.normal f) solved).0
  never-solved index (IsTreated.occurs {f = f} {k = k} {x = x} {i = i} {T = T} {zs = zs} mixed a o) =
      let sides = mixed-long p f k h mixed in
      let both = mixed-patterns p f k patterns mixed in
      occurs-fails terms s long h.typ f k sides.0 sides.1 both.0 both.1 (mixed-solved terms p.left p.right f k mixed solved) sides.2 x i T zs a o
  never-solved index (IsTreated.escapes {f = f} {k = k} {x = x} {i = i} {p = q} {T = T} {zs = zs} mixed a e out) =
      let sides = mixed-long p f k h mixed in
      let both = mixed-patterns p f k patterns mixed in
      escapes-unsolved terms s long h.typ f k sides.0 sides.1 both.0 both.1 (mixed-solved terms p.left p.right f k mixed solved) sides.2 x i T zs a q e out

  becomes-solves : (index : ℕ) (qs : List Pair) → IsTreated index p.left p.right (Becomes qs) → SolvesPairs terms qs
  becomes-solves index qs (IsTreated.equal e) = tt
  becomes-solves index qs (IsTreated.same_heads apart e f same) =
      let left = left-long p h in
      let right = right-long p h in
      arguments-solved terms s p h.typ left right (head-rigid p.left left.normal e) (head-rigid p.right right.normal f) solved

-- A map solves the pairs of a state and agrees with its settings.
pub record IsSolution (s : State) (terms : Term → Term) : Type 0 where
  pub substitution : IsTermSubstitution terms
  pub solved : SolvesPairs terms s.pairs
  pub fits : Fits terms s.binds

-- Maps that give each schematic variable images with one long form.
abbrev pub AreAlike : (terms others : Term → Term) → Type 0
AreAlike terms others = (x i : ℕ) (T : Typ) → HaveOneLongForm (terms (Var x i T)) (others (Var x i T))

module _ (terms others : Term → Term) (s : IsTermSubstitution terms) (r : IsTermSubstitution others) (same : AreAlike terms others) where
  variables-alike : (v : Term) → IsVariable v → HaveOneLongForm (terms v) (others v)
  variables-alike (Var x i T) is = same x i T
  variables-alike (Free x T) is = subst (λ u. HaveOneLongForm u (others (Free x T))) (sym (fixed-stays terms s x T)) (subst (HaveOneLongForm (Free x T)) (sym (fixed-stays others r x T)) (one-long-itself (Free x T) T refl))
  variables-alike (Const c T) is = absurd is
  variables-alike (Bound p) is = absurd is
  variables-alike (Abs T b) is = absurd is
  variables-alike (App f a) is = absurd is

  alike-instances : (t : Term) (T : Typ) → HasType [] t T → HaveOneLongForm (inst_term terms t) (inst_term others t)
  alike-instances t T h = same-instances terms others s t T h (λ v is o. variables-alike v is)

  alike-pairs : (ps : List Pair) → Each AreLongOfOneTyp ps → SolvesPairs terms ps → SolvesPairs others ps
  alike-pairs [] h k = tt
  alike-pairs (p ∷ ps) h k =
      (one-long-then (one-long-swap (alike-instances p.left h.0.typ h.0.left_typ)) (one-long-then k.0 (alike-instances p.right h.0.typ h.0.right_typ)), alike-pairs ps h.1 k.1)

  alike-fits : (bs : List TermBind) → Each IsPatternBind bs → Fits terms bs → Fits others bs
  alike-fits [] h k = tt
  alike-fits (b ∷ bs) h k =
      (one-long-then (one-long-swap (same b.name b.index b.typ)) (one-long-then k.0 (alike-instances b.image b.typ h.0.typed)), alike-fits bs h.1 k.1)

-- The map with images in long form.
record IsLonger (s : State) (terms : Term → Term) : Type 0 where
  map : Term → Term
  solution : IsSolution s map
  long : AreLongImages map
  alike : AreAlike terms map

longer : (s : State) (terms : Term → Term) → IsPatternState s → IsSolution s terms → IsLonger s terms
longer s terms h k =
    let map = longer-map terms k.substitution in
    let alike : AreAlike terms map.0 = λ x i T. map.3 (Var x i T) tt in
    record {
      map = map.0;
      solution = record { substitution = map.1; solved = alike-pairs terms map.0 k.substitution map.1 alike s.pairs h.long k.solved; fits = alike-fits terms map.0 k.substitution map.1 alike s.binds h.binds k.fits };
      long = map.2;
      alike = alike;
    }

-- An extension agrees on terms of lower indexes.
module _ (n : ℕ) (terms on : Term → Term) (old : (x i : ℕ) (T : Typ) → i + 1 ≤ n + 1 → on (Var x i T) ≡ terms (Var x i T)) (fixed : (x : ℕ) (T : Typ) → on (Free x T) ≡ terms (Free x T)) where
  agree : (t : Term) → IsLow n t → inst_term on t ≡ inst_term terms t
  agree (Const c T) h = refl
  agree (Free x T) h = fixed x T
  agree (Var x i T) h = (let low = h.1 in old x i T (omega arith))
  agree (Bound p) h = refl
  agree (Abs T b) h = ap (Abs T) (agree b h.1)
  agree (App f a) h = λ l. App (agree f h.0 l) (agree a h.1 l)

  still-solved : (ps : List Pair) → Each (λ p. IsLow n p.left × IsLow n p.right) ps → SolvesPairs terms ps → SolvesPairs on ps
  still-solved [] h k = tt
  still-solved (p ∷ ps) h k = (rw (agree p.left h.0.0, agree p.right h.0.1) k.0, still-solved ps h.1 k.1)

  still-fits : (bs : List TermBind) → Each (IsLowBind n) bs → Fits terms bs → Fits on bs
  still-fits [] h k = tt
  still-fits (b ∷ bs) h k = (let low = h.0.0 in rw (old b.name b.index b.typ (omega arith), agree b.image h.0.1) k.0, still-fits bs h.1 k.1)

-- A map that agrees with settings solves what they make of the pairs, and agrees with what they make of other settings.
module _ (on : Term → Term) (s : IsTermSubstitution on) (bs : List TermBind) (ready : Each IsPatternBind bs) (fits : Fits on bs) where
  set-alike : (x i : ℕ) (T : Typ) → HaveOneLongForm (on (Var x i T)) (inst_term on (term_image bs (Var x i T)))
  set-alike x i T = elim (image-of bs x i T) [
    | inl e ↦ subst (λ u. HaveOneLongForm (on (Var x i T)) (inst_term on u)) (sym e) (one-long-itself (on (Var x i T)) T (image-typed on s x i T))
    | inr k ↦ subst (λ u. HaveOneLongForm (on (Var x i T)) (inst_term on u)) (sym k.3) (subst (λ v. HaveOneLongForm (on v) (inst_term on k.0.image)) k.2 (each_at (λ b. HaveOneLongForm (on (term_variable b)) (inst_term on b.image)) bs fits k.0 k.1))
  ]

  set-variables : (v : Term) → IsVariable v → HaveOneLongForm (on v) (inst_term on (term_image bs v))
  set-variables (Var x i T) is = set-alike x i T
  set-variables (Free x T) is = subst (λ u. HaveOneLongForm (on (Free x T)) (inst_term on u)) (sym (term_image-fixed bs x T)) (subst (λ u. HaveOneLongForm u u) (sym (fixed-stays on s x T)) (one-long-itself (Free x T) T refl))
  set-variables (Const c T) is = absurd is
  set-variables (Bound p) is = absurd is
  set-variables (Abs T b) is = absurd is
  set-variables (App f a) is = absurd is

  put-alike : (t u : Term) (T : Typ) → HasType [] t T → IsPut bs t u → HaveOneLongForm (inst_term on t) (inst_term on u)
  put-alike t u T h k =
      let same = same-instances on (λ v. inst_term on (term_image bs v)) s t T h (λ v is o. set-variables v is) in
      let twice : HasLongForm (inst_term on (inst_term (term_image bs) t)) same.0 = rw (inst-inst on (term_image bs) t) same.2 in
      (same.0, same.1, (long-instance on s (inst_term (term_image bs) t) u same.0 k).0 twice)

  put-solved : (ps qs : List Pair) → Each AreLongOfOneTyp ps → EachTwo (IsPairPut bs) ps qs → SolvesPairs on ps → SolvesPairs on qs
  put-solved [] [] h k solved = tt
  put-solved [] (q ∷ qs) h k solved = absurd k
  put-solved (p ∷ ps) [] h k solved = absurd k
  put-solved (p ∷ ps) (q ∷ qs) h k solved =
      (one-long-then (one-long-swap (put-alike p.left q.left h.0.typ h.0.left_typ k.0.0)) (one-long-then solved.0 (put-alike p.right q.right h.0.typ h.0.right_typ k.0.1)), put-solved ps qs h.1 k.1 solved.1)

  put-fits : (cs ds : List TermBind) → Each IsPatternBind cs → EachTwo (IsBindPut bs) cs ds → Fits on cs → Fits on ds
  put-fits [] [] h k old = tt
  put-fits [] (d ∷ ds) h k old = absurd k
  put-fits (c ∷ cs) [] h k old = absurd k
  put-fits (c ∷ cs) (d ∷ ds) h k old =
      (subst (λ v. HaveOneLongForm (on v) (inst_term on d.image)) k.0.0 (one-long-then old.0 (put-alike c.image d.image c.typ h.0.typed k.0.1)), put-fits cs ds h.1 k.1 old.1)

-- Steps lose no solution: there is one of the next state that agrees with the given one on variables of lower indexes.
record IsNext (n : ℕ) (m : State) (terms : Term → Term) : Type 0 where
  map : Term → Term
  solution : IsSolution m map
  old : (x i : ℕ) (T : Typ) → i ≤ n → HaveOneLongForm (terms (Var x i T)) (map (Var x i T))

step-solved : (n : ℕ) (s m : State) (terms : Term → Term) → IsPatternState s → IsLowState n s → IsSolution s terms → Follows (n + 1) s m → IsNext n m terms
step-solved n s m terms h low k (Follows.replaced {p = p} {ps = ps} {qs = qs} e treated) =
    let all = longer s terms h k in
    let long = subst (Each AreLongOfOneTyp) e h.long in
    let patterns = subst (Each IsPatternPair) e h.patterns in
    let solved : SolvesPairs all.map (p ∷ ps) = subst (SolvesPairs all.map) e all.solution.solved in
    let first = becomes-solves all.map all.solution.substitution all.long n p long.0 patterns.0 solved.0 (n + 1) qs treated in
    record {
      map = all.map;
      solution = record { substitution = all.solution.substitution; solved = each-append (SolvesPair all.map) qs ps first solved.1; fits = all.solution.fits };
      old = λ x i T le. all.alike x i T;
    }
step-solved n s m terms h low k (Follows.set {p = p} {ps = ps} {qs = qs} {bs = bs} cs e treated pairs binds) =
    let all = longer s terms h k in
    let long = subst (Each AreLongOfOneTyp) e h.long in
    let patterns = subst (Each IsPatternPair) e h.patterns in
    let small = subst (Each (λ p. IsLow n p.left × IsLow n p.right)) e low.pairs in
    let solved : SolvesPairs all.map (p ∷ ps) = subst (SolvesPairs all.map) e all.solution.solved in
    let ready = settings_are_patterns (n + 1) p long.0 patterns.0 bs treated in
    let more = set-extension all.map all.solution.substitution all.long n p long.0 patterns.0 solved.0 small.0.0 small.0.1 bs treated in
    let still = still-solved n all.map more.map more.old more.fixed s.pairs low.pairs all.solution.solved in
    let fits = still-fits n all.map more.map more.old more.fixed s.binds low.binds all.solution.fits in
    record {
      map = more.map;
      solution = record {
        substitution = more.substitution;
        solved = put-solved more.map more.substitution bs ready more.fits s.pairs qs h.long pairs still;
        fits = each-append (λ b. HaveOneLongForm (more.map (term_variable b)) (inst_term more.map b.image)) cs bs (put-fits more.map more.substitution bs ready more.fits s.binds cs h.binds binds fits) more.fits;
      };
      old = λ x i T le. subst (HaveOneLongForm (terms (Var x i T))) (sym (more.old x i T (omega arith))) (all.alike x i T);
    }

-- What becomes of a solution in a run.
record IsFitting (n : ℕ) (terms : Term → Term) (all : List TermBind) : Type 0 where
  map : Term → Term
  substitution : IsTermSubstitution map
  fits : Fits map all
  old : (x i : ℕ) (T : Typ) → i ≤ n → HaveOneLongForm (terms (Var x i T)) (map (Var x i T))

then-fitting : (n m : ℕ) (s : State) (terms : Term → Term) (all : List TermBind) → n ≤ m → (k : IsNext n s terms) → IsFitting m k.map all → IsFitting n terms all
then-fitting n m s terms all le k f = record { map = f.map; substitution = f.substitution; fits = f.fits; old = λ x i T small. one-long-then (k.old x i T small) (f.old x i T (omega arith)) }

run-fits : (maxidx n : ℕ) (s : State) (all : List TermBind) (terms : Term → Term) → Runs maxidx n s (Solved all) → IsPatternState s → IsLowState (maxidx + n) s → IsSolution s terms → IsFitting (maxidx + n) terms all
run-fits maxidx n s all terms (Runs.over within e) h low k =
    record { map = terms; substitution = k.substitution; fits = k.fits; old = λ x i T le. one-long-itself (terms (Var x i T)) T (image-typed terms k.substitution x i T) }
run-fits maxidx n s all terms (Runs.next {m = m} within less follows run) h low k =
    let number : maxidx + (n + 1) ≡ (maxidx + n) + 1 = omega arith in
    let step : Follows ((maxidx + n) + 1) s m = subst (λ i. Follows i s m) number follows in
    let next = step-solved (maxidx + n) s m terms h low k step in
    then-fitting (maxidx + n) (maxidx + (n + 1)) m terms all (omega arith) next
    (run-fits maxidx (n + 1) m all next.map run (steps_keep_patterns (maxidx + (n + 1)) s m h follows) (step-low (maxidx + (n + 1)) (maxidx + n) (omega arith) s m h follows low) next.solution)

run-fails : (maxidx n : ℕ) (s : State) (terms : Term → Term) → Runs maxidx n s steps.NoUnifier → IsPatternState s → IsLowState (maxidx + n) s → IsSolution s terms → ⊥
run-fails maxidx n s terms (Runs.never within less stops) h low k =
    let all = longer s terms h k in
    let long = subst (Each AreLongOfOneTyp) stops.are h.long in
    let patterns = subst (Each IsPatternPair) stops.are h.patterns in
    let solved : SolvesPairs all.map (stops.first ∷ stops.rest) = subst (SolvesPairs all.map) stops.are all.solution.solved in
    never-solved all.map all.solution.substitution all.long (maxidx + n) stops.first long.0 patterns.0 solved.0 (maxidx + (n + 1)) stops.never
run-fails maxidx n s terms (Runs.next {m = m} within less follows run) h low k =
    let number : maxidx + (n + 1) ≡ (maxidx + n) + 1 = omega arith in
    let step : Follows ((maxidx + n) + 1) s m = subst (λ i. Follows i s m) number follows in
    let next = step-solved (maxidx + n) s m terms h low k step in
    run-fails maxidx (n + 1) m next.map run (steps_keep_patterns (maxidx + (n + 1)) s m h follows) (step-low (maxidx + (n + 1)) (maxidx + n) (omega arith) s m h follows low) next.solution

-- The given pairs.
start-solution : (ps : List Pair) (terms : Term → Term) → IsTermSubstitution terms → SolvesPairs terms ps → IsSolution (start ps) terms
start-solution ps terms s k = record { substitution = s; solved = k; fits = tt }

pub start-lower : (maxidx : ℕ) (ps : List Pair) → AreReady maxidx ps → IsLowState (maxidx + 0) (start ps)
start-lower maxidx ps h = (let same : maxidx ≡ maxidx + 0 = omega arith in subst (λ n. IsLowState n (start ps)) same (start-low maxidx ps h.indexes))

never-run : (maxidx : ℕ) (ps : List Pair) (answer : Answer) → answer ≡ NoUnifier → IsPatternAnswer maxidx ps answer → Each IsPatternPair ps × Runs maxidx 0 (start ps) steps.NoUnifier
never-run maxidx ps answer e (IsPatternAnswer.schematic_type f) = absurd (cc)
never-run maxidx ps answer e (IsPatternAnswer.no_pattern n f) = absurd (cc)
never-run maxidx ps answer e (IsPatternAnswer.decided {outcome = outcome} n patterns run k) = (patterns, by_cases outcome run (sym k ∙ e))
  where
    by_cases : (outcome : Outcome) → Runs maxidx 0 (start ps) outcome → answer_of ps outcome ≡ NoUnifier → Runs maxidx 0 (start ps) steps.NoUnifier
    by_cases (Solved all) run e = absurd (cc)
    by_cases steps.NoUnifier run e = run
    by_cases steps.Steps run e = absurd (cc)
    by_cases steps.Big run e = absurd (cc)

pub no_unifier_is_final : NoUnifierIsFinal
no_unifier_is_final maxidx ps h answer terms s solved =
    let run = never-run maxidx ps NoUnifier refl answer in
    run-fails maxidx 0 (start ps) terms run.1 (start-ready maxidx ps h run.0) (start-lower maxidx ps h) (start-solution ps terms s solved)

-- Variables of the given pairs.
variables-low : (n : ℕ) (t v : Term) → HasVariablesUpTo n t → IsIn v (variables t) → (x i : ℕ) × (T : Typ) × (v ≡ Var x i T) × (i ≤ n)
variables-low n (Const c T) v h m = absurd m
variables-low n (Free x T) v h m = absurd m
variables-low n (Var x i T) v h (inl e) = (x, i, T, e, h x i T refl)
variables-low n (Var x i T) v h (inr m) = absurd m
variables-low n (Bound p) v h m = absurd m
variables-low n (Abs T b) v h m = variables-low n b v (λ x i U o. h x i U (inr o)) m
variables-low n (App f a) v h m = elim (in_split v (variables f) (variables a) m) [
  | inl k ↦ variables-low n f v (λ x i U o. h x i U (inr (inl o))) k
  | inr k ↦ variables-low n a v (λ x i U o. h x i U (inr (inr o))) k
]

pairs-low : (n : ℕ) (ps : List Pair) (v : Term) → Each (AreVariablesUpTo n) ps → IsIn v (pair_variables ps) → (x i : ℕ) × (T : Typ) × (v ≡ Var x i T) × (i ≤ n)
pairs-low n [] v h m = absurd m
pairs-low n (p ∷ ps) v h m = elim (in_split v (variables p.left) (variables p.right ++ pair_variables ps) m) [
  | inl k ↦ variables-low n p.left v h.0.0 k
  | inr k ↦ elim (in_split v (variables p.right) (pair_variables ps) k) [ inl l ↦ variables-low n p.right v h.0.1 l | inr l ↦ pairs-low n ps v h.1 l ]
]

general : (all : List TermBind) → Each IsPatternBind all → (on others : Term → Term) → IsTermSubstitution on → IsTermSubstitution others → Fits on all → AreAlike on others → (terms : Term → Term) (x i : ℕ) (T : Typ) → HaveOneLongForm (terms (Var x i T)) (on (Var x i T))
    → HaveOneLongForm (terms (Var x i T)) (inst_term others (term_image all (Var x i T)))
general all ready on others s r fits alike terms x i T same =
    let typed = image-typed (term_image all) (binds-long_map all ready).substitution x i T in
    one-long-then same (one-long-then (set-alike on s all ready fits x i T) (alike-instances on others s r alike (term_image all (Var x i T)) T typed))

pub unifier_is_most_general : UnifierIsMostGeneral
unifier_is_most_general maxidx ps h bs answer terms long solved =
    let run = run-of maxidx ps bs (Unified bs) refl answer in
    let fitting = run-fits maxidx 0 (start ps) run.all terms run.run (start-ready maxidx ps h run.patterns) (start-lower maxidx ps h) (start-solution ps terms long.substitution solved) in
    let map = each_map_has_a_long_map fitting.map fitting.substitution in
    let each : (v : Term) → IsIn v (pair_variables ps) → HaveOneLongForm (terms v) (inst_term map.0 (term_image bs v)) = λ v m.
    (let low = pairs-low maxidx ps v h.indexes m in
    let images : term_image bs v ≡ term_image run.all v = ap (λ cs. term_image cs v) run.are ∙ given-image ps run.all v m in
    let small = low.4 in
    let found = general run.all (all-ready maxidx ps h bs run) fitting.map map.0 fitting.substitution map.1.substitution fitting.fits (λ x i T. map.2 (Var x i T) tt) terms low.0 low.1 low.2 (fitting.old low.0 low.1 low.2 (omega arith)) in
    subst (λ u. HaveOneLongForm (terms v) (inst_term map.0 u)) (sym images) (subst (λ w. HaveOneLongForm (terms w) (inst_term map.0 (term_image run.all w))) (sym low.3) found)) in
    (map.0, map.1, each)
