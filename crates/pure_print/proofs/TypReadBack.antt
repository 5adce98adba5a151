-- A readable type is read back as it was printed.
use Rattle.std.proofs.Common.{◌≡◌, ℕ, List, [], ◌∷◌, refl, sym, ◌∙◌, append-nil}
use Rattle.pure_definitions.specs.Types.Typ.{Typ}
use Rattle.pure_grammar.specs.Terms.InnerLexeme.{Ends}
use Rattle.pure_grammar.specs.Terms.InnerTree.{type_raw}
use Rattle.pure_print.specs.TypText.{typ_text}
use Rattle.pure_print.specs.Readable.{IsReadableTyp}
use Rattle.pure_print.specs.ReadBack.{IsReadBackTyp}
use Rattle.pure_print.proofs.Pieces.{bytes_of, tokens_of, pieces-spelled, pieces-lexed}
use Rattle.pure_print.proofs.TypBits.{typ-bit}

pub typ-read_back : (texts : List (List ℕ)) (t : Typ) → IsReadableTyp texts t → IsReadBackTyp texts t (typ_text texts t)
typ-read_back texts t h =
    let b = typ-bit texts t h in
    let ps = b.bit.pieces [] in
    let fit = b.bit.fits [] tt refl in
    let bytes : bytes_of (b.bit.pieces []) ≡ typ_text texts t = b.bit.bytes_are [] ∙ append-nil (typ_text texts t) in
    record {
      tokens = tokens_of 0 (b.bit.pieces []);
      tree = type_raw (b.phrase 0);
      spelled = rw bytes at (pieces-spelled (b.bit.pieces []) fit);
      read = record {
        phrase = b.phrase 0;
        spelled = sym (b.bit.lexed 0 [] (Ends ∷ [])) ∙ sym (rw bytes at (pieces-lexed (b.bit.pieces []) fit));
        means = refl;
      };
      own = b.tree 0;
    }
