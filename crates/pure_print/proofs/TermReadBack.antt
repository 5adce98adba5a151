-- A readable term is read back as it was printed.
use Rattle.std.proofs.Common.{◌≡◌, ◌≢◌, ℕ, zero, suc, ◌+◌, ◌-◌, ◌^◌, ◌<◌, ◌≤◌, true, false, ◌==◌, List, [], ◌∷◌, ◌++◌, drop, refl, sym, ap, ◌∙◌, arith, append-nil, add-one}
use Rattle.std.specs.Prelude.{codes, None, nat_eq}
use Rattle.std.proofs.lemmas.Fmt.{decimal_injective}
use Rattle.std.proofs.lemmas.Bool.{cond_both, eqb-true, lt-ltb, both_ways}
use Rattle.std.proofs.lemmas.Bool.Decides.{nat_tests}
use Rattle.pure_typ.specs.NameTexts.{builtin_texts}
use Rattle.pure_definitions.specs.Terms.Term.{Term, Const, Free, Var, Bound}
use Rattle.pure_definitions.specs.Terms.Term as term
use Rattle.pure_definitions.specs.Terms.Bounds.{IsClosedUnder}
use Rattle.pure_grammar.specs.declared.token.TokenKind.TheVariants as kind
use Rattle.pure_grammar.specs.Tokens.Bytes.{is_letter, is_digit, is_name_byte, head_is}
use Rattle.pure_grammar.specs.Terms.RawTree.{RawTree, Leaf, Abs, App}
use Rattle.pure_grammar.specs.Terms.InnerLexeme.{Ends}
use Rattle.pure_grammar.specs.Terms.InnerTree.{term_raw}
use Rattle.pure_print.specs.NameText.{term_name_text, index_text}
use Rattle.pure_print.specs.Notation.{Notation, Constant, ForAll, Implies, Equal, Lambda, Apply, apply, number_of, notation}
use Rattle.pure_print.specs.TermText.{number_text, term_text}
use Rattle.pure_print.specs.Readable.{HasReadableNames, nested, IsReadable}
use Rattle.pure_print.specs.ReadBack.{IsBoundAt, IsUnbound, IsTreeOf, IsReadBack, name_kind}
use Rattle.pure_print.proofs.Pieces.{bytes_of, tokens_of, pieces-spelled, pieces-lexed}
use Rattle.pure_print.proofs.Names.{IsLeaf, identifier-letter, name-letter}
use Rattle.pure_print.proofs.FormBits.{Shape, IsReadableForm, form-reads}

-- The notation of a readable term is readable.

apply-readable : (texts : List (List ℕ)) (f a : Notation) → IsReadableForm texts f → IsReadableForm texts a → IsReadableForm texts (apply f a)
apply-readable texts (Constant c) (Lambda k b) h i =
    cond_both (nat_eq c 2) (ForAll k b) (Apply (Constant c) (Lambda k b)) (λ x. IsReadableForm texts x) (λ e. i) (λ e. (h, i))
apply-readable texts (Apply (Constant c) a) b h i =
    cond_both (nat_eq c 3) (Implies a b) _ (λ x. IsReadableForm texts x) (λ e. (h.1, i)) (λ e.
    cond_both (nat_eq c 4) (Equal a b) (Apply (Apply (Constant c) a) b) (λ x. IsReadableForm texts x) (λ e. (h.1, i)) (λ e. (h, i)))
apply-readable texts f a h i = (h, i)

pub notation-readable : (texts : List (List ℕ)) (n : ℕ) (t : Term) → IsClosedUnder n t → HasReadableNames texts t → n + nested t ≤ 1000000000 → IsReadableForm texts (notation n t)
notation-readable texts n (Const c T) closed names few = names
notation-readable texts n (Free x T) closed names few = names
notation-readable texts n (Var x i T) closed names few = names
notation-readable texts n (Bound p) closed names few = rw (lt-ltb p n closed) (omega arith)
notation-readable texts n (term.Abs T b) closed names few = (omega arith, notation-readable texts (n + 1) b closed names (omega arith))
notation-readable texts n (term.App f a) closed names few =
    apply-readable texts (notation n f) (notation n a) (notation-readable texts n f closed.0 names.0 (omega arith)) (notation-readable texts n a closed.1 names.1 (omega arith))

-- The tree of an application's notation is the application of the trees.

all-leaf : (texts : List (List ℕ)) (at : ℕ) → IsLeaf (Leaf at kind.Qualified (codes "Pure.all")) (name_kind (term_name_text texts 2)) (term_name_text texts 2)
unfolding builtin_texts is_name_byte is_letter is_digit
all-leaf texts at = (at, refl)

imp-leaf : (texts : List (List ℕ)) (at : ℕ) → IsLeaf (Leaf at kind.Qualified (codes "Pure.imp")) (name_kind (term_name_text texts 3)) (term_name_text texts 3)
unfolding builtin_texts is_name_byte is_letter is_digit
imp-leaf texts at = (at, refl)

eq-leaf : (texts : List (List ℕ)) (at : ℕ) → IsLeaf (Leaf at kind.Qualified (codes "Pure.eq")) (name_kind (term_name_text texts 4)) (term_name_text texts 4)
unfolding builtin_texts is_name_byte is_letter is_digit
eq-leaf texts at = (at, refl)

for_all-shape : (texts : List (List ℕ)) (c k : ℕ) (b : Notation) (tree : RawTree) → nat_eq c 2 ≡ true → Shape texts (ForAll k b) tree → Shape texts (Apply (Constant c) (Lambda k b)) tree
for_all-shape texts c k b tree e s =
    let same : c ≡ 2 = eqb-true c 2 e in
    rw same (s.0, Leaf s.0 kind.Qualified (codes "Pure.all"), Abs s.1 (number_text k) None s.2, s.3, all-leaf texts s.0, (s.1, s.2, refl, s.4))

implies-shape : (texts : List (List ℕ)) (c : ℕ) (a b : Notation) (tree : RawTree) → nat_eq c 3 ≡ true → Shape texts (Implies a b) tree → Shape texts (Apply (Apply (Constant c) a) b) tree
implies-shape texts c a b tree e s =
    let same : c ≡ 3 = eqb-true c 3 e in
    let head = Leaf s.0 kind.Qualified (codes "Pure.imp") in
    rw same (s.0, App s.0 head s.1, s.2, s.3, (s.0, head, s.1, refl, imp-leaf texts s.0, s.4), s.5)

equal-shape : (texts : List (List ℕ)) (c : ℕ) (a b : Notation) (tree : RawTree) → nat_eq c 4 ≡ true → Shape texts (Equal a b) tree → Shape texts (Apply (Apply (Constant c) a) b) tree
equal-shape texts c a b tree e s =
    let same : c ≡ 4 = eqb-true c 4 e in
    let head = Leaf s.0 kind.Qualified (codes "Pure.eq") in
    rw same (s.0, App s.0 head s.1, s.2, s.3, (s.0, head, s.1, refl, eq-leaf texts s.0, s.4), s.5)

apply-shape : (texts : List (List ℕ)) (f a : Notation) (tree : RawTree) → Shape texts (apply f a) tree → Shape texts (Apply f a) tree
apply-shape texts (Constant c) (Lambda k b) tree =
    cond_both (nat_eq c 2) (ForAll k b) (Apply (Constant c) (Lambda k b)) (λ x. Shape texts x tree → Shape texts (Apply (Constant c) (Lambda k b)) tree)
    (λ e s. for_all-shape texts c k b tree e s) (λ e s. s)
apply-shape texts (Apply (Constant c) a) b tree =
    let P : Notation → Type 0 = λ x. Shape texts x tree → Shape texts (Apply (Apply (Constant c) a) b) tree in
    cond_both (nat_eq c 3) (Implies a b) _ P (λ e s. implies-shape texts c a b tree e s) (λ e.
    cond_both (nat_eq c 4) (Equal a b) (Apply (Apply (Constant c) a) b) P (λ e s. equal-shape texts c a b tree e s) (λ e s. s))
apply-shape texts f a tree = λ s. s

-- Binders by their numbers.

-- the binders around a place under n of them, the innermost first
abbrev around : ℕ → List (List ℕ)
around zero = []
around (suc n) = number_text n ∷ around n

around-one : (n : ℕ) → around (n + 1) ≡ number_text n ∷ around n
around-one n = ap around (add-one n)

unbound : (n : ℕ) (text : List ℕ) → head_is (λ b. b == 95) text ≡ false → IsUnbound (around n) text
unbound zero text h = tt
unbound (suc n) text h = (λ e. both_ways (head_is (λ b. b == 95) text) h (ap (λ x. head_is (λ b. b == 95) x) (sym e)), unbound n text h)

letter-not_underscore : (b : ℕ) → is_letter b ≡ true → b == 95 ≡ false
unfolding is_letter
letter-not_underscore b p = grind (arith, nat_tests)

letter-unbound : (n : ℕ) (text : List ℕ) → head_is is_letter text ≡ true → IsUnbound (around n) text
letter-unbound n [] p = cc
letter-unbound n (b ∷ text) p = unbound n (b ∷ text) (letter-not_underscore b p)

numbers-differ : (m n : ℕ) → m < 2 ^ 64 → n < 2 ^ 64 → (m ≡ n → ⊥) → number_text m ≢ number_text n
numbers-differ m n p q other e = other (decimal_injective m n p q (ap (λ x. drop 1 x) e))

-- a bound variable's own binder is the first with its number
bound-at : (n p k : ℕ) → p < n → n ≤ 1000000000 → k ≡ n - (p + 1) → IsBoundAt (around n) (number_text k) p
bound-at zero p k within few is = absurd (omega arith)
bound-at (suc n) zero k within few is = let same : n ≡ k = omega arith in ap number_text same
bound-at (suc n) (suc p) k within few is =
    (numbers-differ n k (omega arith) (omega arith) (λ e. omega arith), bound-at n p k (omega arith) (omega arith) (omega arith))

-- The tree of a readable term's notation is the term's own.
own-tree : (texts : List (List ℕ)) (n : ℕ) (t : Term) (tree : RawTree) → IsClosedUnder n t → HasReadableNames texts t → n + nested t ≤ 1000000000 → Shape texts (notation n t) tree → IsTreeOf texts (around n) tree t
own-tree texts n (Const c T) tree closed names few s = rw s.1 (refl, refl, letter-unbound n (term_name_text texts c) (name-letter (term_name_text texts c) names))
own-tree texts n (Free x T) tree closed names few s = rw s.1 (refl, refl, letter-unbound n (term_name_text texts x) (identifier-letter (term_name_text texts x) names))
own-tree texts n (Var x i T) tree closed names few s = rw s.1 (refl, refl, unbound n (63 ∷ (term_name_text texts x ++ index_text i)) refl)
own-tree texts n (Bound p) tree closed names few s =
    let number : number_of n p ≡ n - (p + 1) = rw (lt-ltb p n closed) refl in
    rw s.1 (refl, bound-at n p (number_of n p) closed (omega arith) number)
own-tree texts n (term.Abs T b) tree closed names few s =
    rw s.2 (refl, rw (sym (around-one n)) (own-tree texts (n + 1) b s.1 closed names (omega arith) s.3))
own-tree texts n (term.App f a) tree closed names few s =
    let p = apply-shape texts (notation n f) (notation n a) tree s in
    rw p.3 (own-tree texts n f p.1 closed.0 names.0 (omega arith) p.4, own-tree texts n a p.2 closed.1 names.1 (omega arith) p.5)

pub term-read_back : (texts : List (List ℕ)) (t : Term) → IsReadable texts t → IsReadBack texts t (term_text texts t)
term-read_back texts t h =
    let b = form-reads texts (notation 0 t) (notation-readable texts 0 t h.closed h.names (omega (arith, h.binders))) in
    let fit = b.bit.fits [] tt refl in
    let bytes : bytes_of (b.bit.pieces []) ≡ term_text texts t = b.bit.bytes_are [] ∙ append-nil (term_text texts t) in
    record {
      tokens = tokens_of 0 (b.bit.pieces []);
      tree = term_raw (b.phrase 0);
      spelled = rw bytes at (pieces-spelled (b.bit.pieces []) fit);
      read = record {
        phrase = b.phrase 0;
        spelled = sym (b.bit.lexed 0 [] (Ends ∷ [])) ∙ sym (rw bytes at (pieces-lexed (b.bit.pieces []) fit));
        means = refl;
      };
      own = own-tree texts 0 t (term_raw (b.phrase 0)) h.closed h.names (omega (arith, h.binders)) (b.own 0);
    }
