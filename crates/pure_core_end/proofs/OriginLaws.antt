-- The theories, commands and goals of promises, which stay as they are while promises stand otherwise.
use Rattle.std.proofs.Common.{◌≡◌, ◌≢◌, ◌∙◌, ◌⊎◌, ℕ, zero, suc, ◌+◌, List, [], ◌∷◌, ◌++◌, map, length, set, take, filter, cond, nat_eq, refl, sym, ap, Bool, true, false, not, ◌&&◌, if◌then◌else◌, Option, Some, None, slice_get, inl, inr, eqb-true, eq-eqb}
use Rattle.std.proofs.lemmas.Option.{same_Some, none-some, slice_get_within, get_or_from_slice_get}
use Rattle.pure_text.proofs.LoopLaws.{longer_by}
use Rattle.std.proofs.lemmas.List.{length-map, map-append}
use Rattle.std.proofs.lemmas.List.Elements.{filter-append}
use Rattle.pure_machine.specs.declared.policy.Group.{Group}
use Rattle.pure_machine.specs.State.{Promise, Standing, Cancelled, Marks, State, with_standing, restood, is_theory_cancelled, is_settled, cancelled_promise, with_cancelled}
use Rattle.pure_core.proofs.PlaceLaws.{standing_so}
use Rattle.pure_core_end.specs.Promises.{promises_of}

-- a promise's goal, behind the command that forked it
abbrev pub commanded : {G O : Type 0} → Promise G O → ℕ × G
commanded p = (p.command, p.goal)

-- a promise's theory, and its command with its goal
abbrev pub origin : {G O : Type 0} → Promise G O → ℕ × (ℕ × G)
origin p = (p.theory, commanded p)

abbrev pub origins : {G O : Type 0} → List (Promise G O) → List (ℕ × (ℕ × G))
origins = map origin

abbrev pub is_at : {A : Type 0} → (i : ℕ) → ℕ × A → Bool
is_at i x = nat_eq x.0 i

-- what a theory has among them
abbrev pub goals_at : {A : Type 0} → (i : ℕ) → List (ℕ × A) → List A
goals_at i xs = map (λ x. x.1) (filter (is_at i) xs)

pub same_or_not : (m n : ℕ) → ((nat_eq m n ≡ true) × (m ≡ n)) ⊎ ((nat_eq m n ≡ false) × (m ≢ n))
same_or_not m n = by_test (nat_eq m n) refl
  where
    by_test : (b : Bool) → nat_eq m n ≡ b → ((nat_eq m n ≡ true) × (m ≡ n)) ⊎ ((nat_eq m n ≡ false) × (m ≢ n))
    by_test true t = inl (t, eqb-true m n t)
    by_test false t = inr (t, λ e. let yes = eq-eqb m n e in absurd (cc))

filter-origins : {G O : Type 0} (i : ℕ) (ps : List (Promise G O)) → filter (is_at i) (origins ps) ≡ origins (promises_of i ps)
filter-origins i [] = refl
filter-origins {G} {O} i (p ∷ ps) = by_test (nat_eq p.theory i) (filter-origins i ps)
  where
    by_test : (b : Bool) → filter (is_at i) (origins ps) ≡ origins (promises_of i ps) → cond b (origin p ∷ filter (is_at i) (origins ps)) (filter (is_at i) (origins ps)) ≡ origins (cond b (p ∷ promises_of i ps) (promises_of i ps))
    by_test true rest = ap (λ xs. origin p ∷ xs) rest
    by_test false rest = rest

goals-of : {G O : Type 0} (qs : List (Promise G O)) → map (λ x. x.1) (origins qs) ≡ map commanded qs
goals-of [] = refl
goals-of (q ∷ qs) = ap (λ xs. commanded q ∷ xs) (goals-of qs)

-- the commands and goals of a theory's promises
pub goals_at-origins : {G O : Type 0} (i : ℕ) (ps : List (Promise G O)) → goals_at i (origins ps) ≡ map commanded (promises_of i ps)
goals_at-origins i ps = ap (map (λ x. x.1)) (filter-origins i ps) ∙ goals-of (promises_of i ps)

pub length-goals_at : {G O : Type 0} (i : ℕ) (ps : List (Promise G O)) → length (goals_at i (origins ps)) ≡ length (promises_of i ps)
length-goals_at i ps = ap length (goals_at-origins i ps) ∙ length-map (promises_of i ps) commanded

mapped-at : {A B : Type 0} (f : A → B) (xs : List A) (n : ℕ) (x : A) → slice_get xs n ≡ Some x → slice_get (map f xs) n ≡ Some (f x)
mapped-at f [] n x e = absurd (none-some x e)
mapped-at f (y ∷ ys) zero x e = ap (λ z. Some (f z)) (same_Some y x e)
mapped-at f (y ∷ ys) (suc n) x e = mapped-at f ys n x e

pub goal-at : {G O : Type 0} (i : ℕ) (ps : List (Promise G O)) (n : ℕ) (p : Promise G O) → slice_get (promises_of i ps) n ≡ Some p → slice_get (goals_at i (origins ps)) n ≡ Some (commanded p)
goal-at i ps n p e = ap (λ xs. slice_get xs n) (goals_at-origins i ps) ∙ mapped-at commanded (promises_of i ps) n p e

pub origin-at : {G O : Type 0} (ps : List (Promise G O)) (n : ℕ) (p : Promise G O) → slice_get ps n ≡ Some p → slice_get (origins ps) n ≡ Some (origin p)
origin-at ps n p e = mapped-at origin ps n p e

-- one fork more
pub goals_at-more : {A : Type 0} (xs : List (ℕ × A)) (i : ℕ) (g : A) → goals_at i (xs ++ (i, g) ∷ []) ≡ goals_at i xs ++ g ∷ []
goals_at-more {A} xs i g =
    ap (map (λ (x : ℕ × A). x.1)) (filter-append (is_at i) xs ((i, g) ∷ [])) ∙ map-append (λ (x : ℕ × A). x.1) (filter (is_at i) xs) (filter (is_at i) ((i, g) ∷ []))
    ∙ ap (λ b. goals_at i xs ++ map (λ (x : ℕ × A). x.1) (cond b ((i, g) ∷ []) [])) (eq-eqb i i refl)

pub goals_at-other : {A : Type 0} (xs : List (ℕ × A)) (i j : ℕ) (g : A) → j ≢ i → goals_at j (xs ++ (i, g) ∷ []) ≡ goals_at j xs
goals_at-other {A} xs i j g other =
    ap (map (λ (x : ℕ × A). x.1)) (filter-append (is_at j) xs ((i, g) ∷ [])) ∙ map-append (λ (x : ℕ × A). x.1) (filter (is_at j) xs) (filter (is_at j) ((i, g) ∷ [])) ∙ elim (same_or_not i j) [
      | inl same ↦ absurd (other (sym same.1))
      | inr apart ↦ ap (λ b. goals_at j xs ++ map (λ (x : ℕ × A). x.1) (cond b ((i, g) ∷ []) [])) apart.0 ∙ end (goals_at j xs)
    ]
  where
    end : (gs : List A) → gs ++ [] ≡ gs
    end [] = refl
    end (x ∷ gs) = ap (λ ys. x ∷ ys) (end gs)

-- a promise behind the others
pub origins-push : {G O : Type 0} (ps : List (Promise G O)) (p : Promise G O) → origins (ps ++ p ∷ []) ≡ origins ps ++ origin p ∷ []
origins-push [] p = refl
origins-push (q ∷ qs) p = ap (λ xs. origin q ∷ xs) (origins-push qs p)

-- a promise that stands otherwise
origins-set : {G O : Type 0} (ps : List (Promise G O)) (n : ℕ) (p : Promise G O) (s : Standing O) → slice_get ps n ≡ Some p → origins (set ps n (standing_so p s)) ≡ origins ps
origins-set [] n p s e = absurd (none-some p e)
origins-set (q ∷ qs) zero p s e = ap (λ x. origin x ∷ origins qs) (sym (same_Some q p e))
origins-set (q ∷ qs) (suc n) p s e = ap (λ xs. origin q ∷ xs) (origins-set qs n p s e)

pub origins-standing : {G O : Type 0} (ps : List (Promise G O)) (n : ℕ) (s : Standing O) → origins (with_standing ps n s) ≡ origins ps
origins-standing {G} {O} ps n s = by_option (slice_get ps n) refl
  where
    by_option : (o : Option (Promise G O)) → slice_get ps n ≡ o → origins (restood ps n o s) ≡ origins ps
    by_option None e = refl
    by_option (Some p) e = origins-set ps n p s e

-- some groups cancelled
origin-cancelled : {G O : Type 0} (b : Bool) (p : Promise G O) → origin (if b then (record { theory = p.theory; command = p.command; goal = p.goal; standing = Cancelled }) else p) ≡ origin p
origin-cancelled true p = refl
origin-cancelled false p = refl

origins-marked : {G O : Type 0} (m : Marks) (ps : List (Promise G O)) → origins (map (cancelled_promise m) ps) ≡ origins ps
origins-marked m [] = refl
origins-marked m (p ∷ ps) = ap (λ x. x ∷ origins (map (cancelled_promise m) ps)) (origin-cancelled (is_theory_cancelled m p.theory && not (is_settled p.standing)) p) ∙ ap (λ xs. origin p ∷ xs) (origins-marked m ps)

pub origins-cancel : {G C O : Type 0} (s : State G C O) (gs : List Group) → origins (with_cancelled s gs).promises ≡ origins s.promises
origins-cancel s [] = refl
origins-cancel s (g ∷ gs) = origins-marked _ s.promises

-- the promises up to a place, and the one there
pub one-further : {A : Type 0} (xs old new : List A) (n : ℕ) (x y : A) → old ≡ take n xs → slice_get xs n ≡ Some x → y ≡ x → new ≡ old ++ y ∷ [] → new ≡ take (n + 1) xs
one-further xs old new n x y before at same more =
    more ∙ ap (λ zs. zs ++ y ∷ []) before ∙ ap (λ z. take n xs ++ z ∷ []) same ∙ sym (longer_by xs n x (slice_get_within xs n x at) (sym (get_or_from_slice_get xs n x x at)))
