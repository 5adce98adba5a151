-- Forms of terms as they are printed, read by the grammar.
use Rattle.std.proofs.Common.{◌≡◌, ℕ, ◌+◌, List, [], ◌∷◌, ◌++◌, length, refl, ap, append_assoc}
use Rattle.std.specs.Prelude.{codes, None}
use Rattle.pure_grammar.specs.declared.token.TokenKind.TheVariants as kind
use Rattle.pure_grammar.specs.Tokens.Bytes.{is_digit}
use Rattle.pure_grammar.specs.Terms.RawTree.{RawTree, Abs, App, implication, equation, generality}
use Rattle.pure_grammar.specs.Terms.InnerLexeme.{InnerLexeme}
use Rattle.pure_grammar.specs.Terms.InnerPhrase.{BoundVar, PlainBinder, Binders, BindersPhrase, Simple, AllTerm, ImpTerm, PlainImp, ArrowImp, PlainEq, BothEq, LambdaCon, PlainCon, AppPhrase, Application, AtomPhrases, NoAtom, AndAtom, AtomPhrase, NamedAtom, SchematicAtom, BoundAtom, ClosedAtom}
use Rattle.pure_grammar.specs.Terms.InnerText as grammar
use Rattle.pure_grammar.specs.Terms.InnerTree.{term_raw, imp_raw, eq_raw, con_raw, app_raw, atom_raw, app_place, applied_raw, atom_place}
use Rattle.pure_print.specs.NameText.{term_name_text, index_text}
use Rattle.pure_print.specs.Notation.{Notation, Constant, Fixed, Schematic, Numbered, ForAll, Implies, Equal, Lambda, Apply}
use Rattle.pure_print.specs.TermText.{number_text, placed, form_text}
use Rattle.pure_print.specs.Readable.{IsIdentifier, IsName, IsShortIndex}
use Rattle.pure_print.specs.ReadBack.{name_kind}
use Rattle.pure_print.proofs.Bits.{Bit, Stops, blank-stops, closing-stops, space-bit, followed, rewritten, narrowed}
use Rattle.pure_print.proofs.FirstTokens.{stops-digit}
use Rattle.pure_print.proofs.Signs.{NoStar, lambda-bit, dot-bit, close-bit, all-bit, implies-bit, equals-bit, open-bit}
use Rattle.pure_print.proofs.Names.{IsLeaf, NoDigit, identifier-bit, name-bit, schematic-bit, number-bit, identifier-star, name-star}

-- The tree is that of the form, places aside.
abbrev pub Shape : (texts : List (List ℕ)) → Notation → RawTree → Type 0
Shape texts (Constant c) tree = IsLeaf tree (name_kind (term_name_text texts c)) (term_name_text texts c)
Shape texts (Fixed x) tree = IsLeaf tree kind.Ident (term_name_text texts x)
Shape texts (Schematic x i) tree = IsLeaf tree kind.Schem (63 ∷ (term_name_text texts x ++ index_text i))
Shape texts (Numbered k) tree = IsLeaf tree kind.BoundName (number_text k)
Shape texts (ForAll k b) tree = (at : ℕ) × (binder : ℕ) × (body : RawTree) × (tree ≡ generality at binder (number_text k) None body) × Shape texts b body
Shape texts (Implies a b) tree = (at : ℕ) × (left : RawTree) × (right : RawTree) × (tree ≡ implication at left right) × Shape texts a left × Shape texts b right
Shape texts (Equal a b) tree = (at : ℕ) × (left : RawTree) × (right : RawTree) × (tree ≡ equation at left right) × Shape texts a left × Shape texts b right
Shape texts (Lambda k b) tree = (at : ℕ) × (body : RawTree) × (tree ≡ Abs at (number_text k) None body) × Shape texts b body
Shape texts (Apply f a) tree = (at : ℕ) × (function : RawTree) × (argument : RawTree) × (tree ≡ App at function argument) × Shape texts f function × Shape texts a argument

-- the names are readable, and the numbers have at most nine digits
abbrev pub IsReadableForm : (texts : List (List ℕ)) → Notation → Type 0
IsReadableForm texts (Constant c) = IsName (term_name_text texts c)
IsReadableForm texts (Fixed x) = IsIdentifier (term_name_text texts x)
IsReadableForm texts (Schematic x i) = IsIdentifier (term_name_text texts x) × IsShortIndex i
IsReadableForm texts (Numbered k) = IsShortIndex k
IsReadableForm texts (ForAll k b) = IsShortIndex k × IsReadableForm texts b
IsReadableForm texts (Implies a b) = IsReadableForm texts a × IsReadableForm texts b
IsReadableForm texts (Equal a b) = IsReadableForm texts a × IsReadableForm texts b
IsReadableForm texts (Lambda k b) = IsShortIndex k × IsReadableForm texts b
IsReadableForm texts (Apply f a) = IsReadableForm texts f × IsReadableForm texts a

-- a text as a phrase of a rule for each place, with its tree
pub record Reads {P : Type 0} (text : P → List InnerLexeme → List InnerLexeme) (raw : P → RawTree) (bytes : List ℕ) (Own : RawTree → Type 0) : Type 0 where
  pub phrase : ℕ → P
  pub bit : Bit bytes (λ from r. text (phrase from) r) Stops
  pub own : (from : ℕ) → Own (raw (phrase from))
  pub star : (rest : List ℕ) → NoStar (bytes ++ rest)

abbrev pub TermReads : List ℕ → (RawTree → Type 0) → Type 0
TermReads = Reads grammar.term_text term_raw

abbrev ImpReads : List ℕ → (RawTree → Type 0) → Type 0
ImpReads = Reads grammar.imp_text imp_raw

abbrev EqReads : List ℕ → (RawTree → Type 0) → Type 0
EqReads = Reads grammar.eq_text eq_raw

abbrev ConReads : List ℕ → (RawTree → Type 0) → Type 0
ConReads = Reads grammar.con_text con_raw

abbrev AppReads : List ℕ → (RawTree → Type 0) → Type 0
AppReads = Reads grammar.app_text app_raw

abbrev AtomReads : List ℕ → (RawTree → Type 0) → Type 0
AtomReads = Reads grammar.atom_text atom_raw

-- A phrase of one rule is one of each rule above it, and in parentheses one of each rule.

plain_app : {bytes : List ℕ} {Own : RawTree → Type 0} → AtomReads bytes Own → AppReads bytes Own
plain_app p = record { phrase = λ from. Application (p.phrase from) NoAtom; bit = p.bit; own = p.own; star = p.star }

plain_con : {bytes : List ℕ} {Own : RawTree → Type 0} → AppReads bytes Own → ConReads bytes Own
plain_con p = record { phrase = λ from. PlainCon (p.phrase from); bit = p.bit; own = p.own; star = p.star }

plain_eq : {bytes : List ℕ} {Own : RawTree → Type 0} → ConReads bytes Own → EqReads bytes Own
plain_eq p = record { phrase = λ from. PlainEq (p.phrase from); bit = p.bit; own = p.own; star = p.star }

plain_imp : {bytes : List ℕ} {Own : RawTree → Type 0} → EqReads bytes Own → ImpReads bytes Own
plain_imp p = record { phrase = λ from. PlainImp (p.phrase from); bit = p.bit; own = p.own; star = p.star }

plain_term : {bytes : List ℕ} {Own : RawTree → Type 0} → ImpReads bytes Own → TermReads bytes Own
plain_term p = record { phrase = λ from. ImpTerm (p.phrase from); bit = p.bit; own = p.own; star = p.star }

dot-no_digit : (rest : List ℕ) → NoDigit (46 ∷ rest)
unfolding is_digit
dot-no_digit rest = refl

closed : {bytes : List ℕ} {Own : RawTree → Type 0} → TermReads bytes Own → AtomReads (40 ∷ (bytes ++ codes ")")) Own
closed {bytes} p = record {
  phrase = λ from. ClosedAtom from (p.phrase (from + 1));
  bit = followed open-bit (followed p.bit close-bit (λ rest now. closing-stops rest) (λ rest now. tt)) (λ rest now. rw (append_assoc bytes (codes ")") rest) (p.star (41 ∷ rest))) (λ rest now. now);
  own = λ from. p.own (from + 1);
  star = λ rest. refl;
}

-- each form as a phrase of the rule that writes it
abbrev Own : (texts : List (List ℕ)) → Notation → Type 0
Own texts (Constant c) = AtomReads (form_text texts (Constant c)) (Shape texts (Constant c))
Own texts (Fixed x) = AtomReads (form_text texts (Fixed x)) (Shape texts (Fixed x))
Own texts (Schematic x i) = AtomReads (form_text texts (Schematic x i)) (Shape texts (Schematic x i))
Own texts (Numbered k) = AtomReads (form_text texts (Numbered k)) (Shape texts (Numbered k))
Own texts (ForAll k b) = TermReads (form_text texts (ForAll k b)) (Shape texts (ForAll k b))
Own texts (Implies a b) = ImpReads (form_text texts (Implies a b)) (Shape texts (Implies a b))
Own texts (Equal a b) = EqReads (form_text texts (Equal a b)) (Shape texts (Equal a b))
Own texts (Lambda k b) = ConReads (form_text texts (Lambda k b)) (Shape texts (Lambda k b))
Own texts (Apply f a) = AppReads (form_text texts (Apply f a)) (Shape texts (Apply f a))

open_term : (texts : List (List ℕ)) (x : Notation) → Own texts x → TermReads (form_text texts x) (Shape texts x)
open_term texts (ForAll k b) p = p
open_term texts (Implies a b) p = plain_term p
open_term texts (Equal a b) p = plain_term (plain_imp p)
open_term texts (Lambda k b) p = plain_term (plain_imp (plain_eq p))
open_term texts (Apply f a) p = plain_term (plain_imp (plain_eq (plain_con p)))
open_term texts (Constant c) p = plain_term (plain_imp (plain_eq (plain_con (plain_app p))))
open_term texts (Fixed x) p = plain_term (plain_imp (plain_eq (plain_con (plain_app p))))
open_term texts (Schematic x i) p = plain_term (plain_imp (plain_eq (plain_con (plain_app p))))
open_term texts (Numbered k) p = plain_term (plain_imp (plain_eq (plain_con (plain_app p))))

-- each form where a form of a level is asked for

as_atom : (texts : List (List ℕ)) (x : Notation) → Own texts x → AtomReads (placed 5 x (form_text texts x)) (Shape texts x)
as_atom texts (Constant c) p = p
as_atom texts (Fixed x) p = p
as_atom texts (Schematic x i) p = p
as_atom texts (Numbered k) p = p
as_atom texts x p = closed (open_term texts x p)

as_app : (texts : List (List ℕ)) (x : Notation) → Own texts x → AppReads (placed 4 x (form_text texts x)) (Shape texts x)
as_app texts (Apply f a) p = p
as_app texts x p = plain_app (as_atom texts x p)

as_con : (texts : List (List ℕ)) (x : Notation) → Own texts x → ConReads (placed 3 x (form_text texts x)) (Shape texts x)
as_con texts (Lambda k b) p = p
as_con texts x p = plain_con (as_app texts x p)

as_eq : (texts : List (List ℕ)) (x : Notation) → Own texts x → EqReads (placed 2 x (form_text texts x)) (Shape texts x)
as_eq texts (Equal a b) p = p
as_eq texts x p = plain_eq (as_con texts x p)

as_imp : (texts : List (List ℕ)) (x : Notation) → Own texts x → ImpReads (placed 1 x (form_text texts x)) (Shape texts x)
as_imp texts (Implies a b) p = p
as_imp texts x p = plain_imp (as_eq texts x p)

as_term : (texts : List (List ℕ)) (x : Notation) → Own texts x → TermReads (placed 0 x (form_text texts x)) (Shape texts x)
as_term texts (ForAll k b) p = p
as_term texts x p = plain_term (as_imp texts x p)

-- Names

constant : (texts : List (List ℕ)) (c : ℕ) → IsName (term_name_text texts c) → Own texts (Constant c)
constant texts c h =
    let name = name-bit (term_name_text texts c) h in
    record { phrase = λ from. NamedAtom (name.phrase from); bit = name.bit; own = λ from. name.leaf from; star = λ rest. name-star (term_name_text texts c) rest h }

fixed : (texts : List (List ℕ)) (x : ℕ) → IsIdentifier (term_name_text texts x) → Own texts (Fixed x)
fixed texts x h = record {
  phrase = λ from. NamedAtom (Simple (term_name_text texts x) from);
  bit = identifier-bit (term_name_text texts x) h;
  own = λ from. (from, refl);
  star = λ rest. identifier-star (term_name_text texts x) rest h;
}

schematic : (texts : List (List ℕ)) (x i : ℕ) → IsIdentifier (term_name_text texts x) → IsShortIndex i → Own texts (Schematic x i)
schematic texts x i h short = record {
  phrase = λ from. SchematicAtom (63 ∷ (term_name_text texts x ++ index_text i)) from;
  bit = schematic-bit (term_name_text texts x) i h short;
  own = λ from. (from, refl);
  star = λ rest. refl;
}

numbered : (texts : List (List ℕ)) (k : ℕ) → IsShortIndex k → Own texts (Numbered k)
numbered texts k short = record {
  phrase = λ from. BoundAtom (number_text k) from;
  bit = narrowed (number-bit k short) (λ rest now. stops-digit rest now);
  own = λ from. (from, refl);
  star = λ rest. refl;
}

-- Binders

abbrev binder : ℕ → ℕ → BindersPhrase
binder k at = Binders (PlainBinder (BoundVar (number_text k) at)) []

for_all : (texts : List (List ℕ)) (k : ℕ) (b : Notation) → IsShortIndex k → Own texts b → Own texts (ForAll k b)
for_all texts k b short p =
    let body = as_term texts b p in
    let place : ℕ → ℕ = λ from. from + 2 + length (number_text k) + 1 + 1 in
    record {
      phrase = λ from. AllTerm from (binder k (from + 2)) (body.phrase (place from));
      bit = followed all-bit (followed (number-bit k short) (followed dot-bit (followed space-bit body.bit (λ rest now. tt) (λ rest now. now)) (λ rest now. tt) (λ rest now. now)) (λ rest now. dot-no_digit rest) (λ rest now. now)) (λ rest now. tt) (λ rest now. now);
      own = λ from. (from, from + 2, term_raw (body.phrase (place from)), refl, body.own (place from));
      star = λ rest. refl;
    }

lambda : (texts : List (List ℕ)) (k : ℕ) (b : Notation) → IsShortIndex k → Own texts b → Own texts (Lambda k b)
lambda texts k b short p =
    let body = as_con texts b p in
    let place : ℕ → ℕ = λ from. from + 1 + length (number_text k) + 1 + 1 in
    record {
      phrase = λ from. LambdaCon from (binder k (from + 1)) (body.phrase (place from));
      bit = followed lambda-bit (followed (number-bit k short) (followed dot-bit (followed space-bit body.bit (λ rest now. tt) (λ rest now. now)) (λ rest now. tt) (λ rest now. now)) (λ rest now. dot-no_digit rest) (λ rest now. now)) (λ rest now. tt) (λ rest now. now);
      own = λ from. (from, con_raw (body.phrase (place from)), refl, body.own (place from));
      star = λ rest. refl;
    }

-- Connectives

implies : (texts : List (List ℕ)) (a b : Notation) → Own texts a → Own texts b → Own texts (Implies a b)
implies texts a b p q =
    let left = as_eq texts a p in
    let right = as_imp texts b q in
    let place : ℕ → ℕ = λ from. from + length (placed 2 a (form_text texts a)) + 1 + 3 + 1 in
    record {
      phrase = λ from. ArrowImp (left.phrase from) (ImpTerm (right.phrase (place from)));
      bit = followed left.bit (followed space-bit (followed implies-bit (followed space-bit right.bit (λ rest now. tt) (λ rest now. now)) (λ rest now. tt) (λ rest now. now)) (λ rest now. tt) (λ rest now. now)) (λ rest now. blank-stops rest) (λ rest now. now);
      own = λ from. (_, eq_raw (left.phrase from), imp_raw (right.phrase (place from)), refl, left.own from, right.own (place from));
      star = λ rest. rw (append_assoc (placed 2 a (form_text texts a)) (codes " ==> " ++ placed 1 b (form_text texts b)) rest) (left.star (codes " ==> " ++ (placed 1 b (form_text texts b) ++ rest)));
    }

equal : (texts : List (List ℕ)) (a b : Notation) → Own texts a → Own texts b → Own texts (Equal a b)
equal texts a b p q =
    let left = as_con texts a p in
    let right = as_con texts b q in
    let place : ℕ → ℕ = λ from. from + length (placed 3 a (form_text texts a)) + 1 + 2 + 1 in
    record {
      phrase = λ from. BothEq (left.phrase from) (right.phrase (place from));
      bit = followed left.bit (followed space-bit (followed equals-bit (followed space-bit right.bit (λ rest now. tt) (λ rest now. now)) (λ rest now. refl) (λ rest now. now)) (λ rest now. tt) (λ rest now. now)) (λ rest now. blank-stops rest) (λ rest now. now);
      own = λ from. (_, con_raw (left.phrase from), con_raw (right.phrase (place from)), refl, left.own from, right.own (place from));
      star = λ rest. rw (append_assoc (placed 3 a (form_text texts a)) (codes " == " ++ placed 3 b (form_text texts b)) rest) (left.star (codes " == " ++ (placed 3 b (form_text texts b) ++ rest)));
    }

-- Applications

-- the arguments with one more behind them
abbrev more_atoms : AtomPhrases → AtomPhrase → AtomPhrases
more_atoms NoAtom a = AndAtom a NoAtom
more_atoms (AndAtom x xs) a = AndAtom x (more_atoms xs a)

abbrev applied_to : AppPhrase → AtomPhrase → AppPhrase
applied_to (Application f xs) a = Application f (more_atoms xs a)

atoms-text : (xs : AtomPhrases) (a : AtomPhrase) (r : List InnerLexeme) → grammar.atoms_text xs (grammar.atom_text a r) ≡ grammar.atoms_text (more_atoms xs a) r
atoms-text NoAtom a r = refl
atoms-text (AndAtom x xs) a r = ap (grammar.atom_text x) (atoms-text xs a r)

applied-text : (p : AppPhrase) (a : AtomPhrase) (r : List InnerLexeme) → grammar.app_text p (grammar.atom_text a r) ≡ grammar.app_text (applied_to p a) r
applied-text (Application f xs) a r = ap (grammar.atom_text f) (atoms-text xs a r)

atoms-raw : (at : ℕ) (f : RawTree) (xs : AtomPhrases) (a : AtomPhrase) → applied_raw at f (more_atoms xs a) ≡ App at (applied_raw at f xs) (atom_raw a)
atoms-raw at f NoAtom a = refl
atoms-raw at f (AndAtom x xs) a = atoms-raw at (App at f (atom_raw x)) xs a

applied-raw : (p : AppPhrase) (a : AtomPhrase) → app_raw (applied_to p a) ≡ App (app_place p) (app_raw p) (atom_raw a)
applied-raw (Application f xs) a = atoms-raw (atom_place f) (atom_raw f) xs a

application : (texts : List (List ℕ)) (f a : Notation) → Own texts f → Own texts a → Own texts (Apply f a)
application texts f a p q =
    let function = as_app texts f p in
    let argument = as_atom texts a q in
    let place : ℕ → ℕ = λ from. from + length (placed 4 f (form_text texts f)) + 1 in
    record {
      phrase = λ from. applied_to (function.phrase from) (argument.phrase (place from));
      bit = rewritten (followed function.bit (followed space-bit argument.bit (λ rest now. tt) (λ rest now. now)) (λ rest now. blank-stops rest) (λ rest now. now)) refl
          (λ from r. applied-text (function.phrase from) (argument.phrase (place from)) r);
      own = λ from. (_, app_raw (function.phrase from), atom_raw (argument.phrase (place from)), applied-raw (function.phrase from) (argument.phrase (place from)), function.own from, argument.own (place from));
      star = λ rest. rw (append_assoc (placed 4 f (form_text texts f)) (codes " " ++ placed 5 a (form_text texts a)) rest) (function.star (codes " " ++ (placed 5 a (form_text texts a) ++ rest)));
    }

own : (texts : List (List ℕ)) (x : Notation) → IsReadableForm texts x → Own texts x
own texts (Constant c) h = constant texts c h
own texts (Fixed x) h = fixed texts x h
own texts (Schematic x i) h = schematic texts x i h.0 h.1
own texts (Numbered k) h = numbered texts k h
own texts (ForAll k b) h = for_all texts k b h.0 (own texts b h.1)
own texts (Implies a b) h = implies texts a b (own texts a h.0) (own texts b h.1)
own texts (Equal a b) h = equal texts a b (own texts a h.0) (own texts b h.1)
own texts (Lambda k b) h = lambda texts k b h.0 (own texts b h.1)
own texts (Apply f a) h = application texts f a (own texts f h.0) (own texts a h.1)

-- A readable form is read as a term, with its own tree.
pub form-reads : (texts : List (List ℕ)) (x : Notation) → IsReadableForm texts x → TermReads (placed 0 x (form_text texts x)) (Shape texts x)
form-reads texts x h = as_term texts x (own texts x h)
