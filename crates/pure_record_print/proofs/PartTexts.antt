-- A record's parts as they are printed, lexeme by lexeme.
use Rattle.std.proofs.Common.{◌≡◌, ℕ, List, [], ◌∷◌, ◌++◌, refl, sym, ap, ap₂, ◌∙◌, append_assoc, append-nil}
use Rattle.std.specs.Prelude.{codes}
use Rattle.std.specs.Fmt.{decimal}
use Rattle.pure_text.specs.Lists.{Each}
use Rattle.pure_text.proofs.ListLaws.{each-append, each-left, each-right}
use Rattle.pure_definitions.specs.Types.Typ.{Typ, Typs, TFree, TVar, Con, none, also}
use Rattle.pure_definitions.specs.Terms.Term as term
use Rattle.pure_definitions.specs.Terms.Term.{Term}
use Rattle.pure_definitions.specs.Terms.Subst.{TypBind, TermBind, term_variable}
use Rattle.pure_print.specs.NameText.{text_of_name}
use Rattle.pure_record.specs.Items as item
use Rattle.pure_record.specs.Items.{Item}
use Rattle.pure_record.specs.Lines as node
use Rattle.pure_record.specs.Lines.{Node}
use Rattle.pure_record.specs.declared.lexeme.Mark.{Mark}
use Rattle.pure_record.specs.declared.lexeme.Mark.TheVariants as mark
use Rattle.pure_record.specs.declared.lexeme.Word.{Word}
use Rattle.pure_record.specs.declared.lexeme.Word.TheVariants as word
use Rattle.pure_record.specs.declared.lexeme.Lexeme.{Lexeme}
use Rattle.pure_record.specs.declared.lexeme.Lexeme.TheVariants.{Marked, Identifier, TypeVariable, SchematicType, SchematicTerm, Bound, Numeral, Other}
use Rattle.pure_record.specs.Grammar.{IsTyp, AreArguments, AreMoreArguments, IsTerm, AreTypBinds, AreTermBinds, IsWord, IsNode, IsItem, AreLines, AreItems, IsRecord}
use Rattle.pure_record_print.specs.Printed.{spaced, variable_text, typ_name_text, constant_name_text, typ_text, arguments_text, more_arguments_text, term_text, typ_binds_text, term_binds_text, node_text, item_text, lines_text, items_text, record_text}
use Rattle.pure_record_print.proofs.Spellings.{mark_text, mark_gap, word_text, lexeme_text, lexemes_text, IsWordText, IsFaithful, typ_name-text, constant_name-text}

-- the lexeme stands in records
abbrev pub IsKnown : Lexeme → Type 0
IsKnown Other = ⊥
IsKnown _ = Unit {0}

-- The lexemes in front of the rest are written as this text, where they were read of tokens.
pub record Writes (texts : List (List ℕ)) (text : List ℕ) (ls rest : List Lexeme) : Type 0 where
  pub before : List Lexeme
  pub parts : ls ≡ before ++ rest
  pub known : Each IsKnown before
  pub written : Each (IsFaithful texts) before → lexemes_text texts before ≡ text

empty : {texts : List (List ℕ)} {ls rest : List Lexeme} → ls ≡ rest → Writes texts [] ls rest
empty e = record { before = []; parts = e; known = tt; written = λ f. refl }

one : {texts : List (List ℕ)} {ls rest : List Lexeme} (l : Lexeme) (text : List ℕ) → IsKnown l → (IsFaithful texts l → lexeme_text texts l ≡ text) → ls ≡ l ∷ rest → Writes texts text ls rest
one {texts} l text k w e = record { before = l ∷ []; parts = e; known = (k, tt); written = λ f. append-nil (lexeme_text texts l) ∙ w f.0 }

marked : {texts : List (List ℕ)} {ls rest : List Lexeme} (m : Mark) → ls ≡ Marked m ∷ rest → Writes texts (mark_text m ++ mark_gap m) ls rest
marked m e = one (Marked m) _ tt (λ f. refl) e

lexemes_text-append : (texts : List (List ℕ)) (a b : List Lexeme) → lexemes_text texts (a ++ b) ≡ lexemes_text texts a ++ lexemes_text texts b
lexemes_text-append texts [] b = refl
lexemes_text-append texts (l ∷ a) b = ap (λ z. lexeme_text texts l ++ z) (lexemes_text-append texts a b) ∙ sym (append_assoc (lexeme_text texts l) (lexemes_text texts a) (lexemes_text texts b))

-- one part behind another
followed : {texts : List (List ℕ)} {a b : List ℕ} {ls middle rest : List Lexeme} → Writes texts a ls middle → Writes texts b middle rest → Writes texts (a ++ b) ls rest
followed {texts} {a} {b} {ls} {middle} {rest} p q = record {
  before = p.before ++ q.before;
  parts = p.parts ∙ (ap (λ z. p.before ++ z) q.parts ∙ sym (append_assoc p.before q.before rest));
  known = each-append IsKnown p.before q.before p.known q.known;
  written = λ f. lexemes_text-append texts p.before q.before
      ∙ ap₂ (λ x y. x ++ y) (p.written (each-left (IsFaithful texts) p.before q.before f)) (q.written (each-right (IsFaithful texts) p.before q.before f));
}

retold : {texts : List (List ℕ)} {a b : List ℕ} {ls rest : List Lexeme} → Writes texts a ls rest → a ≡ b → Writes texts b ls rest
retold p e = record { before = p.before; parts = p.parts; known = p.known; written = λ f. p.written f ∙ e }

-- ---- types
mutual
  written-typ : (texts : List (List ℕ)) (t : Typ) (ls rest : List Lexeme) → IsTyp t ls rest → Writes texts (typ_text texts t) ls rest
  written-typ texts (TFree x s) ls rest h = one (TypeVariable x) _ tt (λ f. refl) h.1
  written-typ texts (TVar x i s) ls rest h = one (SchematicType x i) _ tt (λ f. refl) h.1
  written-typ texts (Con k args) ls rest h =
      followed (one (Identifier h.0 h.1) (spaced (typ_name_text texts k)) tt (λ f. ap spaced (typ_name-text texts h.0 h.1 f ∙ ap (typ_name_text texts) (sym h.3))) h.4)
      (written-arguments texts args h.2 rest h.5)

  written-arguments : (texts : List (List ℕ)) (ts : Typs) (ls rest : List Lexeme) → AreArguments ts ls rest → Writes texts (arguments_text texts ts) ls rest
  written-arguments texts none ls rest h = empty h
  written-arguments texts (also t ts) ls rest h = followed (marked mark.OpenParenthesis h.2) (followed (written-typ texts t h.0 h.1 h.3) (written-more texts ts h.1 rest h.4))

  written-more : (texts : List (List ℕ)) (ts : Typs) (ls rest : List Lexeme) → AreMoreArguments ts ls rest → Writes texts (more_arguments_text texts ts ++ codes ") ") ls rest
  written-more texts none ls rest h = marked mark.CloseParenthesis h
  written-more texts (also t ts) ls rest h =
      retold (followed (marked mark.Comma h.2) (followed (written-typ texts t h.0 h.1 h.3) (written-more texts ts h.1 rest h.4)))
      (ap (λ z. codes ", " ++ z) (sym (append_assoc (typ_text texts t) (more_arguments_text texts ts) (codes ") "))))

-- ---- terms
written-typed : (texts : List (List ℕ)) (T : Typ) (close : Mark) (ls a rest : List Lexeme) → ls ≡ Marked mark.Colon ∷ a → IsTyp T a (Marked close ∷ rest)
    → Writes texts (codes ": " ++ (typ_text texts T ++ (mark_text close ++ mark_gap close))) ls rest
written-typed texts T close ls a rest e h = followed (marked mark.Colon e) (followed (written-typ texts T a (Marked close ∷ rest) h) (marked close refl))

written-term : (texts : List (List ℕ)) (t : Term) (ls rest : List Lexeme) → IsTerm t ls rest → Writes texts (term_text texts t) ls rest
written-term texts (term.Const c T) ls rest h =
    followed (marked mark.OpenBracket h.4)
    (followed (one (Identifier h.0 h.1) (spaced (constant_name_text texts c)) tt (λ f. ap spaced (constant_name-text texts h.0 h.1 f ∙ ap (constant_name_text texts) (sym h.3))) refl)
    (written-typed texts T mark.CloseBracket _ h.2 rest refl h.5))
written-term texts (term.Free x T) ls rest h =
    followed (marked mark.OpenBrace h.2) (followed (one (Identifier x h.0) (spaced (text_of_name texts x)) tt (λ f. refl) refl) (written-typed texts T mark.CloseBrace _ h.1 rest refl h.3))
written-term texts (term.Var x i T) ls rest h =
    followed (marked mark.OpenBrace h.1) (followed (one (SchematicTerm x i) (codes "?" ++ variable_text texts x i) tt (λ f. refl) refl) (written-typed texts T mark.CloseBrace _ h.0 rest refl h.2))
written-term texts (term.Bound k) ls rest h = one (Bound k) _ tt (λ f. refl) h
written-term texts (term.Abs T b) ls rest h =
    followed (marked mark.OpenParenthesis h.2) (followed (marked mark.Percent refl) (followed (written-typ texts T h.0 (Marked mark.Semicolon ∷ h.1) h.3)
    (followed (marked mark.Semicolon refl) (followed (written-term texts b h.1 (Marked mark.CloseParenthesis ∷ rest) h.4) (marked mark.CloseParenthesis refl)))))
written-term texts (term.App f x) ls rest h =
    followed (marked mark.OpenParenthesis h.2) (followed (written-term texts f h.0 h.1 h.3) (followed (written-term texts x h.1 (Marked mark.CloseParenthesis ∷ rest) h.4) (marked mark.CloseParenthesis refl)))

-- ---- maps
written-typ_binds : (texts : List (List ℕ)) (es : List TypBind) (ls rest : List Lexeme) → AreTypBinds es ls rest → Writes texts (typ_binds_text texts es) ls rest
written-typ_binds texts [] ls rest h = marked mark.CloseBracket h
written-typ_binds texts (e ∷ es) ls rest h =
    followed (one (SchematicType e.name e.index) (codes "?'" ++ variable_text texts e.name e.index) tt (λ f. refl) h.3) (followed (written-typ texts e.image h.0 (Marked mark.Semicolon ∷ h.1) h.4)
    (followed (marked mark.Semicolon refl) (written-typ_binds texts es h.1 rest h.5)))

written-term_binds : (texts : List (List ℕ)) (es : List TermBind) (ls rest : List Lexeme) → AreTermBinds es ls rest → Writes texts (term_binds_text texts es) ls rest
written-term_binds texts [] ls rest h = marked mark.CloseBracket h
written-term_binds texts (e ∷ es) ls rest h =
    followed (written-term texts (term_variable e) ls h.0 h.2) (followed (written-term texts e.image h.0 (Marked mark.Semicolon ∷ h.1) h.3)
    (followed (marked mark.Semicolon refl) (written-term_binds texts es h.1 rest h.4)))

-- ---- lines
written-word : {texts : List (List ℕ)} (w : Word) (ls rest : List Lexeme) → ((t : List ℕ) → IsWordText w t → t ≡ word_text w) → IsWord w ls rest → Writes texts (spaced (word_text w)) ls rest
written-word {texts} w ls rest sure h = one (Identifier h.0 w) _ tt (λ f. ap spaced (sure (text_of_name texts h.0) f.1)) h.1

written-number : {texts : List (List ℕ)} (n : ℕ) (rest : List Lexeme) → Writes texts (spaced (decimal n)) (Numeral n ∷ rest) rest
written-number n rest = one (Numeral n) _ tt (λ f. refl) refl

written-node : (texts : List (List ℕ)) (n : Node) (ls rest : List Lexeme) → IsNode n ls rest → Writes texts (node_text texts n) ls rest
written-node texts (node.Axiom n typs terms) ls rest h =
    followed (written-word word.Axiom ls _ (λ t e. e) h.3) (followed (one (Identifier n h.0) (spaced (text_of_name texts n)) tt (λ f. refl) refl) (followed (marked mark.OpenBracket refl)
    (followed (written-typ_binds texts typs h.1 (Marked mark.OpenBracket ∷ h.2) h.4) (followed (marked mark.OpenBracket refl) (written-term_binds texts terms h.2 rest h.5)))))
written-node texts (node.Assume p) ls rest h = followed (written-word word.Assume ls h.0 (λ t e. e) h.1) (written-term texts p h.0 rest h.2)
written-node texts (node.AllIntro v n) ls rest h = followed (written-word word.AllIntro ls h.0 (λ t e. e) h.2) (followed (written-term texts v h.0 (Numeral n ∷ rest) h.3) (written-number n rest))
written-node texts (node.AllElim t n) ls rest h = followed (written-word word.AllElim ls h.0 (λ t e. e) h.1) (followed (written-term texts t h.0 (Numeral n ∷ rest) h.2) (written-number n rest))
written-node texts (node.ImpIntro p n) ls rest h = followed (written-word word.ImpIntro ls h.0 (λ t e. e) h.1) (followed (written-term texts p h.0 (Numeral n ∷ rest) h.2) (written-number n rest))
written-node texts (node.ImpElim m n) ls rest h = followed (written-word word.ImpElim ls _ (λ t e. e) h) (followed (written-number m (Numeral n ∷ rest)) (written-number n rest))
written-node texts (node.Beta t) ls rest h = followed (written-word word.Beta ls h.0 (λ t e. e) h.1) (written-term texts t h.0 rest h.2)
written-node texts (node.Refl t) ls rest h = followed (written-word word.Refl ls h.0 (λ t e. e) h.1) (written-term texts t h.0 rest h.2)
written-node texts (node.Subst p x y) ls rest h =
    followed (written-word word.Subst ls h.0 (λ t e. e) h.3) (followed (written-term texts p h.0 h.1 h.4) (followed (written-term texts x h.1 h.2 h.5) (written-term texts y h.2 rest h.6)))
written-node texts (node.Ext f g) ls rest h = followed (written-word word.Ext ls h.0 (λ t e. e) h.2) (followed (written-term texts f h.0 h.1 h.3) (written-term texts g h.1 rest h.4))
written-node texts (node.Iff x y) ls rest h = followed (written-word word.Iff ls h.0 (λ t e. e) h.2) (followed (written-term texts x h.0 h.1 h.3) (written-term texts y h.1 rest h.4))

written-lines : (texts : List (List ℕ)) (ns : List Node) (ls : List Lexeme) → AreLines ns ls → Writes texts (lines_text texts ns ++ codes "end\n") ls []
written-lines texts [] ls h = followed (marked mark.End h) (marked mark.SourceEnd refl)
written-lines texts (n ∷ ns) ls h =
    retold (followed (written-node texts n ls (Marked mark.Bar ∷ h.0) h.1) (followed (marked mark.Bar refl) (written-lines texts ns h.0 h.2)))
    (sym (append_assoc (node_text texts n) (codes "|\n" ++ lines_text texts ns) (codes "end\n")))

-- ---- items
written-item : (texts : List (List ℕ)) (i : Item) (ls rest : List Lexeme) → IsItem i ls rest → Writes texts (item_text texts i) ls rest
written-item texts (item.TypeDecl k n) ls rest h =
    followed (marked mark.Typedecl h.3) (followed (one (Identifier h.0 h.1) (spaced (typ_name_text texts k)) tt (λ f. ap spaced (typ_name-text texts h.0 h.1 f ∙ ap (typ_name_text texts) (sym h.2))) refl) (written-number n rest))
written-item texts (item.Const c T) ls rest h =
    followed (marked mark.Consts h.4) (followed (one (Identifier h.0 h.1) (spaced (constant_name_text texts c)) tt (λ f. ap spaced (constant_name-text texts h.0 h.1 f ∙ ap (constant_name_text texts) (sym h.3))) refl)
    (followed (marked mark.DoubleColon refl) (written-typ texts T h.2 rest h.5)))
written-item texts (item.Axiom n p) ls rest h =
    followed (marked mark.Axiomatization h.2) (followed (one (Identifier n h.0) (spaced (text_of_name texts n)) tt (λ f. refl) refl) (followed (marked mark.Colon refl) (written-term texts p h.1 rest h.3)))

written-items : (texts : List (List ℕ)) (is : List Item) (ns : List Node) (ls : List Lexeme) → AreItems is ns ls → Writes texts (items_text texts is ++ (lines_text texts ns ++ codes "end\n")) ls []
written-items texts [] ns ls h = written-lines texts ns ls h
written-items texts (i ∷ is) ns ls h =
    retold (followed (written-item texts i ls (Marked mark.Bar ∷ h.0) h.1) (followed (marked mark.Bar refl) (written-items texts is ns h.0 h.2)))
    (sym (append_assoc (item_text texts i) (codes "|\n" ++ items_text texts is) (lines_text texts ns ++ codes "end\n")))

pub written-record : (texts : List (List ℕ)) (is : List Item) (ns : List Node) (ls : List Lexeme) → IsRecord is ns ls → Writes texts (record_text texts is ns) ls []
written-record texts is ns ls h = followed (marked mark.Begin h.1) (written-items texts is ns h.0 h.2)
