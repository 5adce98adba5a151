-- Beta steps: where there is none, and that a term has one sequence and one answer.
use Rattle.std.proofs.Common.{◌≡◌, ◌⊎◌, inl, inr, ℕ, zero, suc, ◌+◌, ◌<◌, ◌≤◌, List, [], ◌∷◌, length, replicate, refl, sym, ◌∙◌, ap, ◌↔◌, arith}
use Rattle.std.proofs.lemmas.Bool.{cases_lt}
use Rattle.std.proofs.lemmas.List.{length-replicate}
use Rattle.std.specs.Prelude.{Option, Some, None, option_map}
use Rattle.pure_text.specs.Lists.{Each}
use Rattle.pure_definitions.specs.Types.Typ.{Typ}
use Rattle.pure_definitions.specs.Terms.Term.{Term, Abs, App, IsWithin, term_size, term_depth, max_size, max_depth}
use Rattle.pure_definitions.specs.Reduction.Beta.{IsBetaNormal, app_step, beta_step, IsBetaSequence, BetaAnswer, TooLarge, NormalForm, TooManySteps, max_steps, Decides, IsBetaAnswer}
use Rattle.pure_term_laws.specs.LawsExamples.{doubled, endless, doubled_at_a, identity_at_a, pair, a}
use Rattle.pure_term_laws.proofs.LimitLaws.{doubled_is_large}
use Rattle.pure_term_laws.specs.LawsNormal.{BetaAnswerExample, EndlessExample, LargeExample}

app_step-none : (f a : Term) (r s : Option Term) → app_step f a r s ≡ None → (r ≡ None) × (s ≡ None)
app_step-none f a None None h = (refl, refl)
app_step-none f a None (Some b) h = absurd (cc)
app_step-none f a (Some g) s h = absurd (cc)

pub app_step-some : (f a u : Term) (r s : Option Term) → app_step f a r s ≡ Some u
    → ((g : Term) × (r ≡ Some g) × (App g a ≡ u)) ⊎ ((b : Term) × (s ≡ Some b) × (App f b ≡ u))
app_step-some f a u (Some g) s h = inl (g, refl, cc)
app_step-some f a u None (Some b) h = inr (b, refl, cc)
app_step-some f a u None None h = absurd (cc)

pub map-some : (T : Typ) (u : Term) (r : Option Term) → option_map (Abs T) r ≡ Some u → (c : Term) × (r ≡ Some c) × (Abs T c ≡ u)
map-some T u (Some c) h = (c, refl, cc)
map-some T u None h = absurd (cc)

pub no_step-normal : (t : Term) → beta_step t ≡ None → IsBetaNormal t
no_step-normal (App (Abs T b) a) h = absurd (cc)
no_step-normal (App f a) h = let parts = app_step-none f a (beta_step f) (beta_step a) h in ((λ x. x), no_step-normal f parts.0, no_step-normal a parts.1)
no_step-normal (Abs T b) h = no_step-normal b (none_below (beta_step b) h)
  where
    none_below : (r : Option Term) → option_map (Abs T) r ≡ None → r ≡ None
    none_below None h = refl
    none_below (Some c) h = absurd (cc)
no_step-normal _ h = tt

pub normal-no_step : (t : Term) → IsBetaNormal t → beta_step t ≡ None
normal-no_step (App (Abs T b) a) h = absurd (h.0 tt)
normal-no_step (App f a) h = rw (normal-no_step f h.1, normal-no_step a h.2) refl
normal-no_step (Abs T b) h = rw (normal-no_step b h) refl
normal-no_step _ h = refl

pub no_step-exactly_where_normal : (t : Term) → (beta_step t ≡ None) ↔ IsBetaNormal t
no_step-exactly_where_normal t = (no_step-normal t, normal-no_step t)

sequence_once : (us vs : List Term) (t s u v : Term) → t ≡ s → IsBetaSequence t us u → IsBetaSequence s vs v → length us ≡ length vs → (us ≡ vs) × (u ≡ v)
sequence_once [] [] t s u v e h k l = (refl, cc)
sequence_once [] (y ∷ ys) t s u v e h k l = absurd (omega arith)
sequence_once (x ∷ xs) [] t s u v e h k l = absurd (omega arith)
sequence_once (x ∷ xs) (y ∷ ys) t s u v e h k l =
    let step : beta_step t ≡ beta_step s = ap beta_step e in
    let next : h.1.0 ≡ k.1.0 = cc in
    let rest = sequence_once xs ys h.1.0 k.1.0 u v next h.1.2 k.1.2 (omega arith) in
    (cc, rest.1)

pub one_beta_sequence : (t u v : Term) (us vs : List Term) → IsBetaSequence t us u → IsBetaSequence t vs v → length us ≡ length vs → (us ≡ vs) × (u ≡ v)
one_beta_sequence t u v us vs h k l = sequence_once us vs t t u v refl h k l

sequence_to_normal : (us vs : List Term) (t s u v : Term) → t ≡ s → IsBetaSequence t us u → IsBetaSequence s vs v → IsBetaNormal u → IsBetaNormal v → (us ≡ vs) × (u ≡ v)
sequence_to_normal [] [] t s u v e h k n m = (refl, cc)
sequence_to_normal [] (y ∷ ys) t s u v e h k n m = let stop = normal-no_step u n in let same : s ≡ u = cc in let step = ap beta_step same in absurd (cc)
sequence_to_normal (x ∷ xs) [] t s u v e h k n m = let stop = normal-no_step v m in let same : t ≡ v = cc in let step = ap beta_step same in absurd (cc)
sequence_to_normal (x ∷ xs) (y ∷ ys) t s u v e h k n m =
    let step : beta_step t ≡ beta_step s = ap beta_step e in
    let next : h.1.0 ≡ k.1.0 = cc in
    let rest = sequence_to_normal xs ys h.1.0 k.1.0 u v next h.1.2 k.1.2 n m in
    (cc, rest.1)

pub one_beta_sequence_to_normal : (t u v : Term) (us vs : List Term) → IsBetaSequence t us u → IsBetaSequence t vs v → IsBetaNormal u → IsBetaNormal v → (us ≡ vs) × (u ≡ v)
one_beta_sequence_to_normal t u v us vs h k n m = sequence_to_normal us vs t t u v refl h k n m

decides_once : (n : ℕ) (u : Term) (one other : BetaAnswer) → Decides n u one → Decides n u other → one ≡ other
decides_once n u TooLarge TooLarge h k = refl
decides_once n u TooLarge (NormalForm t) h k = absurd (h k.0)
decides_once n u TooLarge TooManySteps h k = absurd (h k.0)
decides_once n u (NormalForm t) TooLarge h k = absurd (k h.0)
decides_once n u (NormalForm t) (NormalForm s) h k = ap NormalForm (sym h.2 ∙ k.2)
decides_once n u (NormalForm t) TooManySteps h k = absurd (k.1 h.1)
decides_once n u TooManySteps TooLarge h k = absurd (k h.0)
decides_once n u TooManySteps (NormalForm s) h k = absurd (h.1 k.1)
decides_once n u TooManySteps TooManySteps h k = refl

-- a term that is within the limits and isn't normal decides nothing before the last step
undecided : (n : ℕ) (u : Term) (answer : BetaAnswer) → n < max_steps → IsWithin u × (¬ IsBetaNormal u) → ¬ Decides n u answer
undecided n u TooLarge early undone h = h undone.0
undecided n u (NormalForm t) early undone h = undone.1 h.1
undecided n u TooManySteps early undone h = let late = h.2 in omega arith

answers_once : (ps qs : List Term) (n m l : ℕ) (t s u v : Term) (one other : BetaAnswer) → t ≡ s → IsBetaSequence t ps u → IsBetaSequence s qs v
    → Each (λ u. IsWithin u × (¬ IsBetaNormal u)) ps → Each (λ u. IsWithin u × (¬ IsBetaNormal u)) qs → m ≡ n + length ps → l ≡ n + length qs → m ≤ max_steps → l ≤ max_steps
    → Decides m u one → Decides l v other → one ≡ other
answers_once [] [] n m l t s u v one other e h k p q mn ln mm lm d c =
    let same : v ≡ u = cc in let places : l ≡ m = omega arith in decides_once m u one other d (rw (same, places) at c)
answers_once [] (y ∷ ys) n m l t s u v one other e h k p q mn ln mm lm d c =
    let same : u ≡ y = cc in absurd (undecided m y one (omega arith) q.0 (rw same at d))
answers_once (x ∷ xs) [] n m l t s u v one other e h k p q mn ln mm lm d c =
    let same : v ≡ x = cc in absurd (undecided l x other (omega arith) p.0 (rw same at c))
answers_once (x ∷ xs) (y ∷ ys) n m l t s u v one other e h k p q mn ln mm lm d c =
    let step : beta_step t ≡ beta_step s = ap beta_step e in
    let next : h.1.0 ≡ k.1.0 = cc in
    answers_once xs ys (suc n) m l h.1.0 k.1.0 u v one other next h.1.2 k.1.2 p.1 q.1 (omega arith) (omega arith) mm lm d c

pub one_beta_answer : (t : Term) (one other : BetaAnswer) → IsBetaAnswer t one → IsBetaAnswer t other → one ≡ other
one_beta_answer t one other h k =
    answers_once h.before k.before 0 (length h.before) (length k.before) t t h.last k.last one other refl h.sequence k.sequence h.undecided k.undecided (omega arith) (omega arith) h.in_time k.in_time h.decided k.decided

within_or_not : (t : Term) → IsWithin t ⊎ (¬ IsWithin t)
within_or_not t = elim (cases_lt max_size (term_size t)) [
  | inl large ↦ inr (λ h. let size = h.size in omega arith)
  | inr small ↦ elim (cases_lt max_depth (term_depth t)) [ inl deep ↦ inr (λ h. let depth = h.depth in omega arith) | inr flat ↦ inl (record { size = small; depth = flat }) ]
]

normal_or_step : (t : Term) → IsBetaNormal t ⊎ ((u : Term) × (beta_step t ≡ Some u))
normal_or_step t = by (beta_step t) refl
  where
    by : (o : Option Term) → beta_step t ≡ o → IsBetaNormal t ⊎ ((u : Term) × (beta_step t ≡ Some u))
    by None e = inl (no_step-normal t e)
    by (Some u) e = inr (u, e)

pub step-not_normal : (t u : Term) → beta_step t ≡ Some u → ¬ IsBetaNormal t
step-not_normal t u e n = let none = normal-no_step t n in cc

-- the terms of the sequence from the term after n steps on, up to the first that decides an answer
record AnswersFrom (n : ℕ) (t : Term) : Type 0 where
  answer : BetaAnswer
  before : List Term
  last : Term
  steps : ℕ
  counted : steps ≡ n + length before
  in_time : steps ≤ max_steps
  sequence : IsBetaSequence t before last
  undecided : Each (λ u. IsWithin u × (¬ IsBetaNormal u)) before
  decided : Decides steps last answer

decided_at_once : (n : ℕ) (t : Term) (answer : BetaAnswer) → n ≤ max_steps → Decides n t answer → AnswersFrom n t
decided_at_once n t answer h d = record { answer = answer; before = []; last = t; steps = n; counted = omega arith; in_time = h; sequence = refl; undecided = tt; decided = d }

answers_from : (left n : ℕ) → n + left ≡ max_steps → (t : Term) → AnswersFrom n t
answers_from zero n e t = elim (within_or_not t) [
  | inr large ↦ decided_at_once n t TooLarge (omega arith) large
  | inl small ↦ elim (normal_or_step t) [
    | inl normal ↦ decided_at_once n t (NormalForm t) (omega arith) (small, normal, refl)
    | inr step ↦ (let last : n ≡ max_steps = omega arith in decided_at_once n t TooManySteps (omega arith) (small, step-not_normal t step.0 step.1, last))
  ]
]
answers_from (suc left) n e t = elim (within_or_not t) [
  | inr large ↦ decided_at_once n t TooLarge (omega arith) large
  | inl small ↦ elim (normal_or_step t) [
    | inl normal ↦ decided_at_once n t (NormalForm t) (omega arith) (small, normal, refl)
    | inr step ↦ (let r = answers_from left (suc n) (omega arith) step.0 in
        record {
          answer = r.answer;
          before = t ∷ r.before;
          last = r.last;
          steps = r.steps;
          counted = omega arith;
          in_time = r.in_time;
          sequence = (refl, (step.0, step.1, r.sequence));
          undecided = ((small, step-not_normal t step.0 step.1), r.undecided);
          decided = r.decided;
        })
  ]
]

pub some_beta_answer : (t : Term) → (answer : BetaAnswer) × IsBetaAnswer t answer
some_beta_answer t =
    let r = answers_from max_steps 0 (omega arith) t in
    let counted : r.steps ≡ length r.before = omega arith in
    (r.answer, record { before = r.before; last = r.last; sequence = r.sequence; undecided = r.undecided; in_time = rw counted at r.in_time; decided = rw counted at r.decided })

pub beta_answer_example : BetaAnswerExample
beta_answer_example = record {
  before = doubled_at_a ∷ pair identity_at_a identity_at_a ∷ pair a identity_at_a ∷ [];
  last = pair a a;
  sequence = (refl, (pair identity_at_a identity_at_a, refl, (refl, (pair a identity_at_a, refl, (refl, (pair a a, refl, refl))))));
  undecided = ((record { size = omega arith; depth = omega arith }, (λ n. n.0 tt)), ((record { size = omega arith; depth = omega arith }, (λ n. n.2.0 tt)), ((record { size = omega arith; depth = omega arith }, (λ n. n.2.0 tt)), tt)));
  in_time = omega arith;
  decided = (record { size = omega arith; depth = omega arith }, ((λ x. x), ((λ x. x), tt, tt), tt), refl);
}

endless_row : (n : ℕ) → IsBetaSequence endless (replicate n endless) endless
endless_row zero = refl
endless_row (suc n) = (refl, (endless, refl, endless_row n))

endless_open : (n : ℕ) → Each (λ u. IsWithin u × (¬ IsBetaNormal u)) (replicate n endless)
endless_open zero = tt
endless_open (suc n) = ((record { size = omega arith; depth = omega arith }, (λ h. h.0 tt)), endless_open n)

endless_answer : (n : ℕ) → n ≡ max_steps → IsBetaAnswer endless TooManySteps
endless_answer n e = record {
  before = replicate n endless;
  last = endless;
  sequence = endless_row n;
  undecided = endless_open n;
  in_time = rw (length-replicate n endless) (omega arith);
  decided = (record { size = omega arith; depth = omega arith }, (λ h. h.0 tt), rw (length-replicate n endless) e);
}

pub endless_example : EndlessExample
endless_example = endless_answer 10000 refl

pub large_example : LargeExample
large_example = record { before = []; last = doubled 17; sequence = refl; undecided = tt; in_time = omega arith; decided = doubled_is_large }
