-- Numbers of terms that grow, and what two lines with one number have.
use Rattle.std.proofs.Common.{◌≡◌, ◌∙◌, ℕ, ◌+◌, ◌<◌, zero, suc, List, [], ◌∷◌, ◌++◌, length, refl, sym, ap, subst}
use Rattle.std.specs.Prelude.{Option, Some, None, slice_get}
use Rattle.std.proofs.lemmas.Option.{none-some, same_Some}
use Rattle.pure_text.specs.Lists.{EachTwo}
use Rattle.pure_text.proofs.ListLaws.{two-append}
use Rattle.pure_definitions.specs.Terms.Term.{Term}
use Rattle.pure_logic.specs.Connectives.{imp}
use Rattle.pure_replay.specs.Conclusion.{Conclusion}
use Rattle.pure_replay.specs.Known.{IsNumber, AreNumbers, AreNumbered, HaveGrown, HaveMore, HaveOneNumber}
use Rattle.pure_replay.specs.declared.known.Numbers.{Numbers}

pub pushed-grown : (old : List Term) (t : Term) → HaveGrown old (old ++ t ∷ [])
pushed-grown [] t n u e = absurd (none-some u e)
pushed-grown (x ∷ xs) t zero u e = e
pushed-grown (x ∷ xs) t (suc n) u e = pushed-grown xs t n u e

pub pushed-there : (old : List Term) (t : Term) → slice_get (old ++ t ∷ []) (length old) ≡ Some t
pushed-there [] t = refl
pushed-there (x ∷ xs) t = pushed-there xs t

pub pushed-at : (old new : List Term) (t : Term) (n : ℕ) → n ≡ length old → new ≡ old ++ t ∷ [] → slice_get new n ≡ Some t
pushed-at old new t n e is = subst (λ xs. slice_get xs n ≡ Some t) (sym is) (subst (λ m. slice_get (old ++ t ∷ []) m ≡ Some t) (sym e) (pushed-there old t))

pub grown-by : (old new : List Term) (t : Term) → new ≡ old ++ t ∷ [] → HaveGrown old new
grown-by old new t is = subst (HaveGrown old) (sym is) (pushed-grown old t)

pub grown_not : (old : List Term) → HaveGrown old old
grown_not old n t e = e

pub grown-twice : (xs ys zs : List Term) → HaveGrown xs ys → HaveGrown ys zs → HaveGrown xs zs
grown-twice xs ys zs g h n t e = h n t (g n t e)

pub none-numbered : (terms : List Term) (cs : List Conclusion) (ns : List Numbers) → cs ≡ [] → ns ≡ [] → AreNumbered terms cs ns
none-numbered terms cs ns e f = subst (λ ds. AreNumbered terms ds ns) (sym e) (subst (AreNumbered terms []) (sym f) tt)

still : (old new : List Term) → HaveGrown old new → (t : Term) (n : Option ℕ) → IsNumber old t n → IsNumber new t n
still old new grown t (Some n) h = grown n t h
still old new grown t None h = tt

pub grown-number : (old new : List Term) → HaveGrown old new → (t : Term) (n : Option ℕ) → IsNumber old t n → IsNumber new t n
grown-number = still

all_still : (old new : List Term) → HaveGrown old new → (cs : List Conclusion) (ns : List Numbers) → AreNumbered old cs ns → AreNumbered new cs ns
all_still old new grown [] [] h = tt
all_still old new grown (c ∷ cs) (n ∷ ns) h =
    (record { prop = still old new grown c.prop n.prop h.0.prop; premise = λ B C e. still old new grown B n.premise (h.0.premise B C e) }, all_still old new grown cs ns h.1)
all_still old new grown [] (n ∷ ns) h = absurd h
all_still old new grown (c ∷ cs) [] h = absurd h

-- One line more.
pub numbered-more : (old new : List Term) (cs : List Conclusion) (ns more : List Numbers) (c : Conclusion) (all : List Conclusion) → HaveMore old ns new more c.prop → all ≡ cs ++ c ∷ [] → AreNumbered old cs ns → AreNumbered new all more
numbered-more old new cs ns more c all m e h =
    subst (λ xs. AreNumbered new xs more) (sym e)
    (subst (AreNumbered new (cs ++ c ∷ [])) (sym m.is) (two-append (λ d n. AreNumbers new d.prop n) cs (c ∷ []) ns (m.numbers ∷ []) (all_still old new m.grown cs ns h) (m.are, tt)))

two_there : (terms : List Term) (cs : List Conclusion) (ns : List Numbers) (k : ℕ) (c : Conclusion) (n : Numbers) → AreNumbered terms cs ns → slice_get cs k ≡ Some c → slice_get ns k ≡ Some n → AreNumbers terms c.prop n
two_there terms [] ns k c n h e f = absurd (none-some c e)
two_there terms (d ∷ ds) [] k c n h e f = absurd h
two_there terms (d ∷ ds) (m ∷ ms) zero c n h e f =
    subst (λ (x : Conclusion). AreNumbers terms x.prop n) (same_Some d c e) (subst (AreNumbers terms d.prop) (same_Some m n f) h.0)
two_there terms (d ∷ ds) (m ∷ ms) (suc k) c n h e f = two_there terms ds ms k c n h.1 e f

-- Where a premise and a proposition have one number, they are one term.
pub one-number : (terms : List Term) (cs : List Conclusion) (ns : List Numbers) (i j : ℕ) (e f : Conclusion) → AreNumbered terms cs ns → HaveOneNumber ns i j → slice_get cs i ≡ Some e → slice_get cs j ≡ Some f
    → (A C : Term) → e.prop ≡ imp A C → A ≡ f.prop
one-number terms cs ns i j e f h o at there A C is =
    let first = subst (IsNumber terms A) o.first_has ((two_there terms cs ns i e o.first h at o.first_there).premise A C is) in
    let second = subst (IsNumber terms f.prop) o.second_has (two_there terms cs ns j f o.second h there o.second_there).prop in
    same_Some A f.prop (sym first ∙ second)
