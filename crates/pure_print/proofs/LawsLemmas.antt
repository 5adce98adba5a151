-- The laws of printing.
use Rattle.std.proofs.Common.{◌≡◌, ℕ, List, length, refl, sym, inr, arith}
use Rattle.std.specs.Prelude.{codes}
use Rattle.std.proofs.lemmas.Fmt.{decimal_digit}
use Rattle.pure_typ.specs.NameTexts.{builtin_texts}
use Rattle.pure_definitions.specs.Types.Typ.{Typ}
use Rattle.pure_definitions.specs.Terms.Term.{Term}
use Rattle.pure_grammar.specs.Tokens.Bytes.{is_letter, is_digit, is_name_byte}
use Rattle.pure_grammar.proofs.Readings.{one_list}
use Rattle.pure_grammar.proofs.InnerLemmas.{one_term, one_type}
use Rattle.pure_print.specs.NameText.{term_name_text}
use Rattle.pure_print.specs.TypText.{typ_text}
use Rattle.pure_print.specs.TermText.{term_text}
use Rattle.pure_print.specs.Readable.{IsName}
use Rattle.pure_print.specs.ReadBack.{IsReadBackTyp, IsReadBack}
use Rattle.pure_print.specs.Laws.{OneTypText, OneText, PrintsExample}
use Rattle.pure_print.proofs.TypReadBack.{typ-read_back}
use Rattle.pure_print.proofs.TermReadBack.{term-read_back}

one-tree_of_typ : (texts : List (List ℕ)) (t u : Typ) (text : List ℕ) (a : IsReadBackTyp texts t text) (b : IsReadBackTyp texts u text) → a.tree ≡ b.tree
one-tree_of_typ texts t u text a b =
    let tokens = one_list (length text) text a.tokens b.tokens a.spelled b.spelled in
    one_type text b.tokens a.tree b.tree (rw tokens at a.read) b.read

pub one_typ_text : OneTypText
one_typ_text texts t u h k e =
    let a = typ-read_back texts t h in
    let b : IsReadBackTyp texts u (typ_text texts t) = rw e (typ-read_back texts u k) in
    (b.tree, rw (sym (one-tree_of_typ texts t u (typ_text texts t) a b)) a.own, b.own)

one-tree : (texts : List (List ℕ)) (t u : Term) (text : List ℕ) (a : IsReadBack texts t text) (b : IsReadBack texts u text) → a.tree ≡ b.tree
one-tree texts t u text a b =
    let tokens = one_list (length text) text a.tokens b.tokens a.spelled b.spelled in
    one_term text b.tokens a.tree b.tree (rw tokens at a.read) b.read

pub one_text : OneText
one_text texts t u h k e =
    let a = term-read_back texts t h in
    let b : IsReadBack texts u (term_text texts t) = rw e (term-read_back texts u k) in
    (b.tree, rw (sym (one-tree texts t u (term_text texts t) a b)) a.own, b.own)

protect-name : (texts : List (List ℕ)) → IsName (term_name_text texts 5)
unfolding builtin_texts is_name_byte is_letter is_digit
protect-name texts = inr (codes "Pure", codes "protect", (refl, omega arith), (refl, omega arith), refl)

protect-text : (texts : List (List ℕ)) → term_name_text texts 5 ≡ codes "Pure.protect"
unfolding builtin_texts
protect-text texts = refl

pub prints_example : (texts : List (List ℕ)) → PrintsExample texts
prints_example texts = record {
  readable = record { closed = (tt, omega arith); names = (protect-name texts, tt); binders = omega arith };
  text = rw (protect-text texts, decimal_digit 0 (omega arith)) refl;
}
