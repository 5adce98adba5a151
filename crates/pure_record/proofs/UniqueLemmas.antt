-- No lexemes are those of two records.
use Rattle.std.proofs.Common.{◌≡◌, inl, inr, ℕ, Bool, true, false, List, [], ◌∷◌, refl, sym, ◌∙◌, ap, subst, ◌||◌}
use Rattle.std.specs.List.{list_any}
use Rattle.std.specs.Cmp.Lexicographic.{same_text, nat_list_eq_equiv}
use Rattle.std.proofs.lemmas.Bool.{both_ways, or_cases}
use Rattle.pure_text.specs.Lists.{IsIn}
use Rattle.pure_text.proofs.AscendingTexts.{ascending_once}
use Rattle.pure_grammar.specs.declared.token.Token.{Token}
use Rattle.pure_grammar.specs.Theories.Lexeme.{same}
use Rattle.pure_record.specs.Lexemes.{lexemes}
use Rattle.pure_record.specs.Spelled.{AreNamesOf}
use Rattle.pure_record.specs.Laws.{OneRecord}
use Rattle.pure_definitions.specs.Types.Typ.{Typ, Typs, TFree, TVar, Con, none, also}
use Rattle.pure_definitions.specs.Terms.Term as term
use Rattle.pure_definitions.specs.Terms.Term.{Term}
use Rattle.pure_definitions.specs.Terms.Subst.{TypBind, TermBind}
use Rattle.pure_record.specs.Items as item
use Rattle.pure_record.specs.Items.{Item}
use Rattle.pure_record.specs.Lines as node
use Rattle.pure_record.specs.Lines.{Node}
use Rattle.pure_record.specs.Grammar.{typ_name, constant_name, IsTyp, AreArguments, AreMoreArguments, IsTerm, AreTypBinds, AreTermBinds, IsWord, IsNode, IsItem, AreLines, AreItems, IsRecord}
use Rattle.pure_record.specs.declared.lexeme.Mark.{Mark}
use Rattle.pure_record.specs.declared.lexeme.Mark.TheVariants as mark
use Rattle.pure_record.specs.declared.lexeme.Word.{Word}
use Rattle.pure_record.specs.declared.lexeme.Word.TheVariants as word
use Rattle.pure_record.specs.declared.lexeme.Lexeme.{Lexeme}
use Rattle.pure_record.specs.declared.lexeme.Lexeme.TheVariants.{Marked, Identifier, TypeVariable, SchematicType, SchematicTerm, Bound, Numeral}
use Rattle.pure_record.proofs.AcceptLemmas.{IsShut, shut-more}

-- ---- types
mutual
  unique-typ : (t u : Typ) (ls r s : List Lexeme) → IsTyp t ls r → IsTyp u ls s → IsShut r → IsShut s → (t ≡ u) × (r ≡ s)
  unique-typ (TFree x p) (TFree y q) ls r s (a, e) (b, f) c d =
      let h : TypeVariable x ∷ r ≡ TypeVariable y ∷ s = sym e ∙ f in
      let n : x ≡ y = cc in
      let k : r ≡ s = cc in
      (rw (n, a, b) refl, k)
  unique-typ (TVar x i p) (TVar y j q) ls r s (a, e) (b, f) c d =
      let h : SchematicType x i ∷ r ≡ SchematicType y j ∷ s = sym e ∙ f in
      let n : x ≡ y = cc in
      let m : i ≡ j = cc in
      let k : r ≡ s = cc in
      (rw (n, m, a, b) refl, k)
  unique-typ (Con x args) (Con y brgs) ls r s (n, w, a, e, f, given) (m, v, b, g, k, other) c d =
      let h : Identifier n w ∷ a ≡ Identifier m v ∷ b = sym f ∙ k in
      let p : n ≡ m = cc in
      let q : w ≡ v = cc in
      let l : a ≡ b = cc in
      let name : x ≡ y = e ∙ (λ i. typ_name (p i) (q i)) ∙ sym g in
      let rest = unique-arguments args brgs a r s given (subst (λ z. AreArguments brgs z s) (sym l) other) c d in
      ((λ i. Con (name i) (rest.0 i)), rest.1)
  unique-typ (TFree x p) (TVar y j q) ls r s (a, e) (b, f) c d = let h : TypeVariable x ∷ r ≡ SchematicType y j ∷ s = sym e ∙ f in absurd (cc)
  unique-typ (TFree x p) (Con y brgs) ls r s (a, e) (m, v, b, g, k, other) c d = let h : TypeVariable x ∷ r ≡ Identifier m v ∷ b = sym e ∙ k in absurd (cc)
  unique-typ (TVar x i p) (TFree y q) ls r s (a, e) (b, f) c d = let h : SchematicType x i ∷ r ≡ TypeVariable y ∷ s = sym e ∙ f in absurd (cc)
  unique-typ (TVar x i p) (Con y brgs) ls r s (a, e) (m, v, b, g, k, other) c d = let h : SchematicType x i ∷ r ≡ Identifier m v ∷ b = sym e ∙ k in absurd (cc)
  unique-typ (Con x args) (TFree y q) ls r s (n, w, a, e, f, given) (b, k) c d = let h : Identifier n w ∷ a ≡ TypeVariable y ∷ s = sym f ∙ k in absurd (cc)
  unique-typ (Con x args) (TVar y j q) ls r s (n, w, a, e, f, given) (b, k) c d = let h : Identifier n w ∷ a ≡ SchematicType y j ∷ s = sym f ∙ k in absurd (cc)

  unique-arguments : (ts us : Typs) (ls r s : List Lexeme) → AreArguments ts ls r → AreArguments us ls s → IsShut r → IsShut s → (ts ≡ us) × (r ≡ s)
  unique-arguments none none ls r s e f c d = (refl, sym e ∙ f)
  unique-arguments none (also u us) ls r s e (a, b, f, one, more) c d = let bad : true ≡ false = subst IsShut (sym e ∙ f) c in absurd (cc)
  unique-arguments (also t ts) none ls r s (a, b, e, one, more) f c d = let bad : true ≡ false = subst IsShut (sym f ∙ e) d in absurd (cc)
  unique-arguments (also t ts) (also u us) ls r s (a, b, e, one, more) (a', b', f, other, others) c d =
      let h : Marked mark.OpenParenthesis ∷ a ≡ Marked mark.OpenParenthesis ∷ a' = sym e ∙ f in
      let l : a ≡ a' = cc in
      let first = unique-typ t u a b b' one (subst (λ z. IsTyp u z b') (sym l) other) (shut-more ts b r more) (shut-more us b' s others) in
      let rest = unique-more ts us b r s more (subst (λ z. AreMoreArguments us z s) (sym first.1) others) in
      ((λ i. also (first.0 i) (rest.0 i)), rest.1)

  unique-more : (ts us : Typs) (ls r s : List Lexeme) → AreMoreArguments ts ls r → AreMoreArguments us ls s → (ts ≡ us) × (r ≡ s)
  unique-more none none ls r s e f = let h : Marked mark.CloseParenthesis ∷ r ≡ Marked mark.CloseParenthesis ∷ s = sym e ∙ f in let k : r ≡ s = cc in (refl, k)
  unique-more none (also u us) ls r s e (a, b, f, one, more) = let h : Marked mark.CloseParenthesis ∷ r ≡ Marked mark.Comma ∷ a = sym e ∙ f in absurd (cc)
  unique-more (also t ts) none ls r s (a, b, e, one, more) f = let h : Marked mark.Comma ∷ a ≡ Marked mark.CloseParenthesis ∷ s = sym e ∙ f in absurd (cc)
  unique-more (also t ts) (also u us) ls r s (a, b, e, one, more) (a', b', f, other, others) =
      let h : Marked mark.Comma ∷ a ≡ Marked mark.Comma ∷ a' = sym e ∙ f in
      let l : a ≡ a' = cc in
      let first = unique-typ t u a b b' one (subst (λ z. IsTyp u z b') (sym l) other) (shut-more ts b r more) (shut-more us b' s others) in
      let rest = unique-more ts us b r s more (subst (λ z. AreMoreArguments us z s) (sym first.1) others) in
      ((λ i. also (first.0 i) (rest.0 i)), rest.1)

-- a type in front of a mark that is no parenthesis
typ-before : (m : Mark) (t u : Typ) (ls r s : List Lexeme) → IsShut (Marked m ∷ r) → IsShut (Marked m ∷ s) → IsTyp t ls (Marked m ∷ r) → IsTyp u ls (Marked m ∷ s) → (t ≡ u) × (r ≡ s)
typ-before m t u ls r s c d one other =
    let w = unique-typ t u ls (Marked m ∷ r) (Marked m ∷ s) one other c d in
    let h : Marked m ∷ r ≡ Marked m ∷ s = w.1 in
    let k : r ≡ s = cc in
    (w.0, k)

-- ---- terms
-- no term begins with `%`
no-percent : (t : Term) (ls r a : List Lexeme) → IsTerm t ls r → ls ≡ Marked mark.Percent ∷ a → ⊥
no-percent (term.Const c T) ls r a (n, w, b, _, e, typ) f = let h : Marked mark.OpenBracket ∷ Identifier n w ∷ Marked mark.Colon ∷ b ≡ Marked mark.Percent ∷ a = sym e ∙ f in absurd (cc)
no-percent (term.Free x T) ls r a (w, b, e, typ) f = let h : Marked mark.OpenBrace ∷ Identifier x w ∷ Marked mark.Colon ∷ b ≡ Marked mark.Percent ∷ a = sym e ∙ f in absurd (cc)
no-percent (term.Var x i T) ls r a (b, e, typ) f = let h : Marked mark.OpenBrace ∷ SchematicTerm x i ∷ Marked mark.Colon ∷ b ≡ Marked mark.Percent ∷ a = sym e ∙ f in absurd (cc)
no-percent (term.Bound k) ls r a e f = let h : Bound k ∷ r ≡ Marked mark.Percent ∷ a = sym e ∙ f in absurd (cc)
no-percent (term.Abs T t) ls r a (b, c, e, one, more) f = let h : Marked mark.OpenParenthesis ∷ Marked mark.Percent ∷ b ≡ Marked mark.Percent ∷ a = sym e ∙ f in absurd (cc)
no-percent (term.App g t) ls r a (b, c, e, one, more) f = let h : Marked mark.OpenParenthesis ∷ b ≡ Marked mark.Percent ∷ a = sym e ∙ f in absurd (cc)

unique-term : (t u : Term) (ls r s : List Lexeme) → IsTerm t ls r → IsTerm u ls s → (t ≡ u) × (r ≡ s)
unique-term (term.Const c T) (term.Const d U) ls r s (n, w, a, e, f, one) (m, v, b, g, k, other) =
    let h : Marked mark.OpenBracket ∷ Identifier n w ∷ Marked mark.Colon ∷ a ≡ Marked mark.OpenBracket ∷ Identifier m v ∷ Marked mark.Colon ∷ b = sym f ∙ k in
    let p : n ≡ m = cc in
    let q : w ≡ v = cc in
    let l : a ≡ b = cc in
    let name : c ≡ d = e ∙ (λ i. constant_name (p i) (q i)) ∙ sym g in
    let rest = typ-before mark.CloseBracket T U a r s refl refl one (subst (λ z. IsTyp U z (Marked mark.CloseBracket ∷ s)) (sym l) other) in
    ((λ i. term.Const (name i) (rest.0 i)), rest.1)
unique-term (term.Free x T) (term.Free y U) ls r s (w, a, e, one) (v, b, f, other) =
    let h : Marked mark.OpenBrace ∷ Identifier x w ∷ Marked mark.Colon ∷ a ≡ Marked mark.OpenBrace ∷ Identifier y v ∷ Marked mark.Colon ∷ b = sym e ∙ f in
    let p : x ≡ y = cc in
    let l : a ≡ b = cc in
    let rest = typ-before mark.CloseBrace T U a r s refl refl one (subst (λ z. IsTyp U z (Marked mark.CloseBrace ∷ s)) (sym l) other) in
    ((λ i. term.Free (p i) (rest.0 i)), rest.1)
unique-term (term.Var x i T) (term.Var y j U) ls r s (a, e, one) (b, f, other) =
    let h : Marked mark.OpenBrace ∷ SchematicTerm x i ∷ Marked mark.Colon ∷ a ≡ Marked mark.OpenBrace ∷ SchematicTerm y j ∷ Marked mark.Colon ∷ b = sym e ∙ f in
    let p : x ≡ y = cc in
    let q : i ≡ j = cc in
    let l : a ≡ b = cc in
    let rest = typ-before mark.CloseBrace T U a r s refl refl one (subst (λ z. IsTyp U z (Marked mark.CloseBrace ∷ s)) (sym l) other) in
    ((λ k. term.Var (p k) (q k) (rest.0 k)), rest.1)
unique-term (term.Bound m) (term.Bound n) ls r s e f =
    let h : Bound m ∷ r ≡ Bound n ∷ s = sym e ∙ f in
    let p : m ≡ n = cc in
    let k : r ≡ s = cc in
    (ap term.Bound p, k)
unique-term (term.Abs T t) (term.Abs U u) ls r s (a, b, e, typ, one) (c, d, f, other, two) =
    let h : Marked mark.OpenParenthesis ∷ Marked mark.Percent ∷ a ≡ Marked mark.OpenParenthesis ∷ Marked mark.Percent ∷ c = sym e ∙ f in
    let l : a ≡ c = cc in
    let first = typ-before mark.Semicolon T U a b d refl refl typ (subst (λ z. IsTyp U z (Marked mark.Semicolon ∷ d)) (sym l) other) in
    let rest = unique-term t u b (Marked mark.CloseParenthesis ∷ r) (Marked mark.CloseParenthesis ∷ s) one (subst (λ z. IsTerm u z (Marked mark.CloseParenthesis ∷ s)) (sym first.1) two) in
    let g : Marked mark.CloseParenthesis ∷ r ≡ Marked mark.CloseParenthesis ∷ s = rest.1 in
    let k : r ≡ s = cc in
    ((λ i. term.Abs (first.0 i) (rest.0 i)), k)
unique-term (term.App f x) (term.App g y) ls r s (a, b, e, fun, arg) (c, d, k, other, others) =
    let h : Marked mark.OpenParenthesis ∷ a ≡ Marked mark.OpenParenthesis ∷ c = sym e ∙ k in
    let l : a ≡ c = cc in
    let first = unique-term f g a b d fun (subst (λ z. IsTerm g z d) (sym l) other) in
    let rest = unique-term x y b (Marked mark.CloseParenthesis ∷ r) (Marked mark.CloseParenthesis ∷ s) arg (subst (λ z. IsTerm y z (Marked mark.CloseParenthesis ∷ s)) (sym first.1) others) in
    let q : Marked mark.CloseParenthesis ∷ r ≡ Marked mark.CloseParenthesis ∷ s = rest.1 in
    let j : r ≡ s = cc in
    ((λ i. term.App (first.0 i) (rest.0 i)), j)
unique-term (term.Const c T) (term.Free d U) ls r s (n, w, a, x, e, t) (v, b, f, u) = let h : Marked mark.OpenBracket ∷ Identifier n w ∷ Marked mark.Colon ∷ a ≡ Marked mark.OpenBrace ∷ Identifier d v ∷ Marked mark.Colon ∷ b = sym e ∙ f in absurd (cc)
unique-term (term.Const c T) (term.Var d m U) ls r s (n, w, a, x, e, t) (b, f, u) = let h : Marked mark.OpenBracket ∷ Identifier n w ∷ Marked mark.Colon ∷ a ≡ Marked mark.OpenBrace ∷ SchematicTerm d m ∷ Marked mark.Colon ∷ b = sym e ∙ f in absurd (cc)
unique-term (term.Const c T) (term.Bound d) ls r s (n, w, a, x, e, t) f = let h : Marked mark.OpenBracket ∷ Identifier n w ∷ Marked mark.Colon ∷ a ≡ Bound d ∷ s = sym e ∙ f in absurd (cc)
unique-term (term.Const c T) (term.Abs U d) ls r s (n, w, a, x, e, t) (b, y, f, u, u0) = let h : Marked mark.OpenBracket ∷ Identifier n w ∷ Marked mark.Colon ∷ a ≡ Marked mark.OpenParenthesis ∷ Marked mark.Percent ∷ b = sym e ∙ f in absurd (cc)
unique-term (term.Const c T) (term.App d U) ls r s (n, w, a, x, e, t) (b, y, f, u, u0) = let h : Marked mark.OpenBracket ∷ Identifier n w ∷ Marked mark.Colon ∷ a ≡ Marked mark.OpenParenthesis ∷ b = sym e ∙ f in absurd (cc)
unique-term (term.Free c T) (term.Const d U) ls r s (w, a, e, t) (m, v, b, y, f, u) = let h : Marked mark.OpenBrace ∷ Identifier c w ∷ Marked mark.Colon ∷ a ≡ Marked mark.OpenBracket ∷ Identifier m v ∷ Marked mark.Colon ∷ b = sym e ∙ f in absurd (cc)
unique-term (term.Free c T) (term.Var d m U) ls r s (w, a, e, t) (b, f, u) = let h : Marked mark.OpenBrace ∷ Identifier c w ∷ Marked mark.Colon ∷ a ≡ Marked mark.OpenBrace ∷ SchematicTerm d m ∷ Marked mark.Colon ∷ b = sym e ∙ f in absurd (cc)
unique-term (term.Free c T) (term.Bound d) ls r s (w, a, e, t) f = let h : Marked mark.OpenBrace ∷ Identifier c w ∷ Marked mark.Colon ∷ a ≡ Bound d ∷ s = sym e ∙ f in absurd (cc)
unique-term (term.Free c T) (term.Abs U d) ls r s (w, a, e, t) (b, y, f, u, u0) = let h : Marked mark.OpenBrace ∷ Identifier c w ∷ Marked mark.Colon ∷ a ≡ Marked mark.OpenParenthesis ∷ Marked mark.Percent ∷ b = sym e ∙ f in absurd (cc)
unique-term (term.Free c T) (term.App d U) ls r s (w, a, e, t) (b, y, f, u, u0) = let h : Marked mark.OpenBrace ∷ Identifier c w ∷ Marked mark.Colon ∷ a ≡ Marked mark.OpenParenthesis ∷ b = sym e ∙ f in absurd (cc)
unique-term (term.Var c n T) (term.Const d U) ls r s (a, e, t) (m, v, b, y, f, u) = let h : Marked mark.OpenBrace ∷ SchematicTerm c n ∷ Marked mark.Colon ∷ a ≡ Marked mark.OpenBracket ∷ Identifier m v ∷ Marked mark.Colon ∷ b = sym e ∙ f in absurd (cc)
unique-term (term.Var c n T) (term.Free d U) ls r s (a, e, t) (v, b, f, u) = let h : Marked mark.OpenBrace ∷ SchematicTerm c n ∷ Marked mark.Colon ∷ a ≡ Marked mark.OpenBrace ∷ Identifier d v ∷ Marked mark.Colon ∷ b = sym e ∙ f in absurd (cc)
unique-term (term.Var c n T) (term.Bound d) ls r s (a, e, t) f = let h : Marked mark.OpenBrace ∷ SchematicTerm c n ∷ Marked mark.Colon ∷ a ≡ Bound d ∷ s = sym e ∙ f in absurd (cc)
unique-term (term.Var c n T) (term.Abs U d) ls r s (a, e, t) (b, y, f, u, u0) = let h : Marked mark.OpenBrace ∷ SchematicTerm c n ∷ Marked mark.Colon ∷ a ≡ Marked mark.OpenParenthesis ∷ Marked mark.Percent ∷ b = sym e ∙ f in absurd (cc)
unique-term (term.Var c n T) (term.App d U) ls r s (a, e, t) (b, y, f, u, u0) = let h : Marked mark.OpenBrace ∷ SchematicTerm c n ∷ Marked mark.Colon ∷ a ≡ Marked mark.OpenParenthesis ∷ b = sym e ∙ f in absurd (cc)
unique-term (term.Bound c) (term.Const d U) ls r s e (m, v, b, y, f, u) = let h : Bound c ∷ r ≡ Marked mark.OpenBracket ∷ Identifier m v ∷ Marked mark.Colon ∷ b = sym e ∙ f in absurd (cc)
unique-term (term.Bound c) (term.Free d U) ls r s e (v, b, f, u) = let h : Bound c ∷ r ≡ Marked mark.OpenBrace ∷ Identifier d v ∷ Marked mark.Colon ∷ b = sym e ∙ f in absurd (cc)
unique-term (term.Bound c) (term.Var d m U) ls r s e (b, f, u) = let h : Bound c ∷ r ≡ Marked mark.OpenBrace ∷ SchematicTerm d m ∷ Marked mark.Colon ∷ b = sym e ∙ f in absurd (cc)
unique-term (term.Bound c) (term.Abs U d) ls r s e (b, y, f, u, u0) = let h : Bound c ∷ r ≡ Marked mark.OpenParenthesis ∷ Marked mark.Percent ∷ b = sym e ∙ f in absurd (cc)
unique-term (term.Bound c) (term.App d U) ls r s e (b, y, f, u, u0) = let h : Bound c ∷ r ≡ Marked mark.OpenParenthesis ∷ b = sym e ∙ f in absurd (cc)
unique-term (term.Abs T c) (term.Const d U) ls r s (a, x, e, t, t0) (m, v, b, y, f, u) = let h : Marked mark.OpenParenthesis ∷ Marked mark.Percent ∷ a ≡ Marked mark.OpenBracket ∷ Identifier m v ∷ Marked mark.Colon ∷ b = sym e ∙ f in absurd (cc)
unique-term (term.Abs T c) (term.Free d U) ls r s (a, x, e, t, t0) (v, b, f, u) = let h : Marked mark.OpenParenthesis ∷ Marked mark.Percent ∷ a ≡ Marked mark.OpenBrace ∷ Identifier d v ∷ Marked mark.Colon ∷ b = sym e ∙ f in absurd (cc)
unique-term (term.Abs T c) (term.Var d m U) ls r s (a, x, e, t, t0) (b, f, u) = let h : Marked mark.OpenParenthesis ∷ Marked mark.Percent ∷ a ≡ Marked mark.OpenBrace ∷ SchematicTerm d m ∷ Marked mark.Colon ∷ b = sym e ∙ f in absurd (cc)
unique-term (term.Abs T c) (term.Bound d) ls r s (a, x, e, t, t0) f = let h : Marked mark.OpenParenthesis ∷ Marked mark.Percent ∷ a ≡ Bound d ∷ s = sym e ∙ f in absurd (cc)
unique-term (term.Abs T c) (term.App d U) ls r s (a, x, e, t, t0) (b, y, f, u, u0) = let h : Marked mark.OpenParenthesis ∷ Marked mark.Percent ∷ a ≡ Marked mark.OpenParenthesis ∷ b = sym e ∙ f in let l : b ≡ Marked mark.Percent ∷ a = cc in absurd (no-percent d b y a u l)
unique-term (term.App c T) (term.Const d U) ls r s (a, x, e, t, t0) (m, v, b, y, f, u) = let h : Marked mark.OpenParenthesis ∷ a ≡ Marked mark.OpenBracket ∷ Identifier m v ∷ Marked mark.Colon ∷ b = sym e ∙ f in absurd (cc)
unique-term (term.App c T) (term.Free d U) ls r s (a, x, e, t, t0) (v, b, f, u) = let h : Marked mark.OpenParenthesis ∷ a ≡ Marked mark.OpenBrace ∷ Identifier d v ∷ Marked mark.Colon ∷ b = sym e ∙ f in absurd (cc)
unique-term (term.App c T) (term.Var d m U) ls r s (a, x, e, t, t0) (b, f, u) = let h : Marked mark.OpenParenthesis ∷ a ≡ Marked mark.OpenBrace ∷ SchematicTerm d m ∷ Marked mark.Colon ∷ b = sym e ∙ f in absurd (cc)
unique-term (term.App c T) (term.Bound d) ls r s (a, x, e, t, t0) f = let h : Marked mark.OpenParenthesis ∷ a ≡ Bound d ∷ s = sym e ∙ f in absurd (cc)
unique-term (term.App c T) (term.Abs U d) ls r s (a, x, e, t, t0) (b, y, f, u, u0) = let h : Marked mark.OpenParenthesis ∷ a ≡ Marked mark.OpenParenthesis ∷ Marked mark.Percent ∷ b = sym e ∙ f in let l : a ≡ Marked mark.Percent ∷ b = cc in absurd (no-percent c a x b t l)

-- a term in front of a lexeme
term-before : (l : Lexeme) (t u : Term) (ls r s : List Lexeme) → IsTerm t ls (l ∷ r) → IsTerm u ls (l ∷ s) → (t ≡ u) × (r ≡ s)
term-before l t u ls r s one other =
    let w = unique-term t u ls (l ∷ r) (l ∷ s) one other in
    let h : l ∷ r ≡ l ∷ s = w.1 in
    let k : r ≡ s = cc in
    (w.0, k)

numbered-before : (m n : ℕ) (t u : Term) (ls r s : List Lexeme) → IsTerm t ls (Numeral m ∷ r) → IsTerm u ls (Numeral n ∷ s) → (t ≡ u) × (m ≡ n) × (r ≡ s)
numbered-before m n t u ls r s one other =
    let w = unique-term t u ls (Numeral m ∷ r) (Numeral n ∷ s) one other in
    let h : Numeral m ∷ r ≡ Numeral n ∷ s = w.1 in
    let p : m ≡ n = cc in
    let k : r ≡ s = cc in
    (w.0, p, k)

-- ---- maps
unique-typ_binds : (es fs : List TypBind) (ls r s : List Lexeme) → AreTypBinds es ls r → AreTypBinds fs ls s → (es ≡ fs) × (r ≡ s)
unique-typ_binds [] [] ls r s e f = let h : Marked mark.CloseBracket ∷ r ≡ Marked mark.CloseBracket ∷ s = sym e ∙ f in let k : r ≡ s = cc in (refl, k)
unique-typ_binds [] (y ∷ fs) ls r s e (a, b, _, f, one, more) = let h : Marked mark.CloseBracket ∷ r ≡ SchematicType y.name y.index ∷ a = sym e ∙ f in absurd (cc)
unique-typ_binds (x ∷ es) [] ls r s (a, b, _, e, one, more) f = let h : SchematicType x.name x.index ∷ a ≡ Marked mark.CloseBracket ∷ s = sym e ∙ f in absurd (cc)
unique-typ_binds (x ∷ es) (y ∷ fs) ls r s (a, b, p, e, one, more) (c, d, q, f, other, others) =
    let h : SchematicType x.name x.index ∷ a ≡ SchematicType y.name y.index ∷ c = sym e ∙ f in
    let name : x.name ≡ y.name = cc in
    let index : x.index ≡ y.index = cc in
    let l : a ≡ c = cc in
    let first = typ-before mark.Semicolon x.image y.image a b d refl refl one (subst (λ z. IsTyp y.image z (Marked mark.Semicolon ∷ d)) (sym l) other) in
    let rest = unique-typ_binds es fs b r s more (subst (λ z. AreTypBinds fs z s) (sym first.1) others) in
    let sort : x.sort ≡ y.sort = p ∙ sym q in
    ((λ i. record { name = name i; index = index i; sort = sort i; image = first.0 i } ∷ rest.0 i), rest.1)

unique-term_binds : (es fs : List TermBind) (ls r s : List Lexeme) → AreTermBinds es ls r → AreTermBinds fs ls s → (es ≡ fs) × (r ≡ s)
unique-term_binds [] [] ls r s e f = let h : Marked mark.CloseBracket ∷ r ≡ Marked mark.CloseBracket ∷ s = sym e ∙ f in let k : r ≡ s = cc in (refl, k)
unique-term_binds [] (y ∷ fs) ls r s e (a, b, (c, f, typ), image, more) = let h : Marked mark.CloseBracket ∷ r ≡ Marked mark.OpenBrace ∷ SchematicTerm y.name y.index ∷ Marked mark.Colon ∷ c = sym e ∙ f in absurd (cc)
unique-term_binds (x ∷ es) [] ls r s (a, b, (c, e, typ), image, more) f = let h : Marked mark.OpenBrace ∷ SchematicTerm x.name x.index ∷ Marked mark.Colon ∷ c ≡ Marked mark.CloseBracket ∷ s = sym e ∙ f in absurd (cc)
unique-term_binds (x ∷ es) (y ∷ fs) ls r s (a, b, (p, e, typ), one, more) (c, d, (q, f, other), two, others) =
    let h : Marked mark.OpenBrace ∷ SchematicTerm x.name x.index ∷ Marked mark.Colon ∷ p ≡ Marked mark.OpenBrace ∷ SchematicTerm y.name y.index ∷ Marked mark.Colon ∷ q = sym e ∙ f in
    let name : x.name ≡ y.name = cc in
    let index : x.index ≡ y.index = cc in
    let l : p ≡ q = cc in
    let first = typ-before mark.CloseBrace x.typ y.typ p a c refl refl typ (subst (λ z. IsTyp y.typ z (Marked mark.CloseBrace ∷ c)) (sym l) other) in
    let image = term-before (Marked mark.Semicolon) x.image y.image a b d one (subst (λ z. IsTerm y.image z (Marked mark.Semicolon ∷ d)) (sym first.1) two) in
    let rest = unique-term_binds es fs b r s more (subst (λ z. AreTermBinds fs z s) (sym image.1) others) in
    ((λ i. record { name = name i; index = index i; typ = first.0 i; image = image.0 i } ∷ rest.0 i), rest.1)

-- ---- lines
behind-word : (w : Word) (ls a b : List Lexeme) → IsWord w ls a → IsWord w ls b → a ≡ b
behind-word w ls a b (m, e) (n, f) = let h : Identifier m w ∷ a ≡ Identifier n w ∷ b = sym e ∙ f in cc

abbrev Begins : Word → List Lexeme → Type 0
Begins w ls = (m : ℕ) × (a : List Lexeme) × (ls ≡ Identifier m w ∷ a)

abbrev node_word : Node → Word
node_word (node.Axiom n es fs) = word.Axiom
node_word (node.Assume p) = word.Assume
node_word (node.AllIntro v k) = word.AllIntro
node_word (node.AllElim t k) = word.AllElim
node_word (node.ImpIntro p k) = word.ImpIntro
node_word (node.ImpElim i j) = word.ImpElim
node_word (node.Beta t) = word.Beta
node_word (node.Refl t) = word.Refl
node_word (node.Subst p x y) = word.Subst
node_word (node.Ext f g) = word.Ext
node_word (node.Iff x y) = word.Iff

word-first : (n : Node) (ls r : List Lexeme) → IsNode n ls r → Begins (node_word n) ls
word-first (node.Axiom n es fs) ls r (w, a, b, (m, e), rest, more) = (m, Identifier n w ∷ Marked mark.OpenBracket ∷ a, e)
word-first (node.Assume p) ls r (a, (m, e), rest) = (m, a, e)
word-first (node.AllIntro v k) ls r (a, variable, (m, e), rest) = (m, a, e)
word-first (node.AllElim t k) ls r (a, (m, e), rest) = (m, a, e)
word-first (node.ImpIntro p k) ls r (a, (m, e), rest) = (m, a, e)
word-first (node.ImpElim i j) ls r (m, e) = (m, Numeral i ∷ Numeral j ∷ r, e)
word-first (node.Beta t) ls r (a, (m, e), rest) = (m, a, e)
word-first (node.Refl t) ls r (a, (m, e), rest) = (m, a, e)
word-first (node.Subst p x y) ls r (a, b, c, (m, e), one, two, rest) = (m, a, e)
word-first (node.Ext f g) ls r (a, b, (m, e), one, rest) = (m, a, e)
word-first (node.Iff x y) ls r (a, b, (m, e), one, rest) = (m, a, e)

clash : (v w : Word) (ls : List Lexeme) → (v ≡ w → ⊥) → Begins v ls → Begins w ls → ⊥
clash v w ls differ (m, a, e) (n, b, f) = let h : Identifier m v ∷ a ≡ Identifier n w ∷ b = sym e ∙ f in differ (cc)

unique-node : (n m : Node) (ls r s : List Lexeme) → IsNode n ls (Marked mark.Bar ∷ r) → IsNode m ls (Marked mark.Bar ∷ s) → (n ≡ m) × (r ≡ s)
unique-node (node.Axiom n es fs) (node.Axiom m es' fs') ls r s (w, a, b, one, first, second) (v, c, d, other, third, fourth) =
    let h : Identifier n w ∷ Marked mark.OpenBracket ∷ a ≡ Identifier m v ∷ Marked mark.OpenBracket ∷ c = behind-word word.Axiom ls (Identifier n w ∷ Marked mark.OpenBracket ∷ a) (Identifier m v ∷ Marked mark.OpenBracket ∷ c) one other in
    let p : n ≡ m = cc in
    let l : a ≡ c = cc in
    let x = unique-typ_binds es es' a (Marked mark.OpenBracket ∷ b) (Marked mark.OpenBracket ∷ d) first (subst (λ z. AreTypBinds es' z (Marked mark.OpenBracket ∷ d)) (sym l) third) in
    let g : Marked mark.OpenBracket ∷ b ≡ Marked mark.OpenBracket ∷ d = x.1 in
    let j : b ≡ d = cc in
    let y = unique-term_binds fs fs' b (Marked mark.Bar ∷ r) (Marked mark.Bar ∷ s) second (subst (λ z. AreTermBinds fs' z (Marked mark.Bar ∷ s)) (sym j) fourth) in
    let q : Marked mark.Bar ∷ r ≡ Marked mark.Bar ∷ s = y.1 in
    let k : r ≡ s = cc in
    ((λ i. node.Axiom (p i) (x.0 i) (y.0 i)), k)
unique-node (node.Assume p) (node.Assume q) ls r s (a, one, t) (b, other, u) =
    let l = behind-word word.Assume ls a b one other in
    let x = term-before (Marked mark.Bar) p q a r s t (subst (λ z. IsTerm q z (Marked mark.Bar ∷ s)) (sym l) u) in
    (ap node.Assume x.0, x.1)
unique-node (node.Beta p) (node.Beta q) ls r s (a, one, t) (b, other, u) =
    let l = behind-word word.Beta ls a b one other in
    let x = term-before (Marked mark.Bar) p q a r s t (subst (λ z. IsTerm q z (Marked mark.Bar ∷ s)) (sym l) u) in
    (ap node.Beta x.0, x.1)
unique-node (node.Refl p) (node.Refl q) ls r s (a, one, t) (b, other, u) =
    let l = behind-word word.Refl ls a b one other in
    let x = term-before (Marked mark.Bar) p q a r s t (subst (λ z. IsTerm q z (Marked mark.Bar ∷ s)) (sym l) u) in
    (ap node.Refl x.0, x.1)
unique-node (node.AllElim p m) (node.AllElim q n) ls r s (a, one, t) (b, other, u) =
    let l = behind-word word.AllElim ls a b one other in
    let x = numbered-before m n p q a (Marked mark.Bar ∷ r) (Marked mark.Bar ∷ s) t (subst (λ z. IsTerm q z (Numeral n ∷ Marked mark.Bar ∷ s)) (sym l) u) in
    let h : Marked mark.Bar ∷ r ≡ Marked mark.Bar ∷ s = x.2 in
    let j : r ≡ s = cc in
    ((λ i. node.AllElim (x.0 i) (x.1 i)), j)
unique-node (node.ImpIntro p m) (node.ImpIntro q n) ls r s (a, one, t) (b, other, u) =
    let l = behind-word word.ImpIntro ls a b one other in
    let x = numbered-before m n p q a (Marked mark.Bar ∷ r) (Marked mark.Bar ∷ s) t (subst (λ z. IsTerm q z (Numeral n ∷ Marked mark.Bar ∷ s)) (sym l) u) in
    let h : Marked mark.Bar ∷ r ≡ Marked mark.Bar ∷ s = x.2 in
    let j : r ≡ s = cc in
    ((λ i. node.ImpIntro (x.0 i) (x.1 i)), j)
unique-node (node.AllIntro p m) (node.AllIntro q n) ls r s (a, v, one, t) (b, w, other, u) =
    let l = behind-word word.AllIntro ls a b one other in
    let x = numbered-before m n p q a (Marked mark.Bar ∷ r) (Marked mark.Bar ∷ s) t (subst (λ z. IsTerm q z (Numeral n ∷ Marked mark.Bar ∷ s)) (sym l) u) in
    let h : Marked mark.Bar ∷ r ≡ Marked mark.Bar ∷ s = x.2 in
    let j : r ≡ s = cc in
    ((λ i. node.AllIntro (x.0 i) (x.1 i)), j)
unique-node (node.ImpElim i j) (node.ImpElim k l) ls r s one other =
    let h : Numeral i ∷ Numeral j ∷ Marked mark.Bar ∷ r ≡ Numeral k ∷ Numeral l ∷ Marked mark.Bar ∷ s =
    behind-word word.ImpElim ls (Numeral i ∷ Numeral j ∷ Marked mark.Bar ∷ r) (Numeral k ∷ Numeral l ∷ Marked mark.Bar ∷ s) one other in
    let p : i ≡ k = cc in
    let q : j ≡ l = cc in
    let m : r ≡ s = cc in
    ((λ z. node.ImpElim (p z) (q z)), m)
unique-node (node.Subst p x y) (node.Subst p' x' y') ls r s (a, b, c, one, first, second, third) (a', b', c', other, first', second', third') =
    let l = behind-word word.Subst ls a a' one other in
    let f = unique-term p p' a b b' first (subst (λ z. IsTerm p' z b') (sym l) first') in
    let g = unique-term x x' b c c' second (subst (λ z. IsTerm x' z c') (sym f.1) second') in
    let h = term-before (Marked mark.Bar) y y' c r s third (subst (λ z. IsTerm y' z (Marked mark.Bar ∷ s)) (sym g.1) third') in
    ((λ i. node.Subst (f.0 i) (g.0 i) (h.0 i)), h.1)
unique-node (node.Ext x y) (node.Ext x' y') ls r s (a, b, one, first, second) (a', b', other, first', second') =
    let l = behind-word word.Ext ls a a' one other in
    let f = unique-term x x' a b b' first (subst (λ z. IsTerm x' z b') (sym l) first') in
    let g = term-before (Marked mark.Bar) y y' b r s second (subst (λ z. IsTerm y' z (Marked mark.Bar ∷ s)) (sym f.1) second') in
    ((λ i. node.Ext (f.0 i) (g.0 i)), g.1)
unique-node (node.Iff x y) (node.Iff x' y') ls r s (a, b, one, first, second) (a', b', other, first', second') =
    let l = behind-word word.Iff ls a a' one other in
    let f = unique-term x x' a b b' first (subst (λ z. IsTerm x' z b') (sym l) first') in
    let g = term-before (Marked mark.Bar) y y' b r s second (subst (λ z. IsTerm y' z (Marked mark.Bar ∷ s)) (sym f.1) second') in
    ((λ i. node.Iff (f.0 i) (g.0 i)), g.1)
unique-node (node.Axiom n es fs) (node.Assume p') ls r s one other = absurd (clash word.Axiom word.Assume ls (λ e. absurd (cc)) (word-first (node.Axiom n es fs) ls (Marked mark.Bar ∷ r) one) (word-first (node.Assume p') ls (Marked mark.Bar ∷ s) other))
unique-node (node.Axiom n es fs) (node.AllIntro v' k') ls r s one other = absurd (clash word.Axiom word.AllIntro ls (λ e. absurd (cc)) (word-first (node.Axiom n es fs) ls (Marked mark.Bar ∷ r) one) (word-first (node.AllIntro v' k') ls (Marked mark.Bar ∷ s) other))
unique-node (node.Axiom n es fs) (node.AllElim t' k') ls r s one other = absurd (clash word.Axiom word.AllElim ls (λ e. absurd (cc)) (word-first (node.Axiom n es fs) ls (Marked mark.Bar ∷ r) one) (word-first (node.AllElim t' k') ls (Marked mark.Bar ∷ s) other))
unique-node (node.Axiom n es fs) (node.ImpIntro p' k') ls r s one other = absurd (clash word.Axiom word.ImpIntro ls (λ e. absurd (cc)) (word-first (node.Axiom n es fs) ls (Marked mark.Bar ∷ r) one) (word-first (node.ImpIntro p' k') ls (Marked mark.Bar ∷ s) other))
unique-node (node.Axiom n es fs) (node.ImpElim i' j') ls r s one other = absurd (clash word.Axiom word.ImpElim ls (λ e. absurd (cc)) (word-first (node.Axiom n es fs) ls (Marked mark.Bar ∷ r) one) (word-first (node.ImpElim i' j') ls (Marked mark.Bar ∷ s) other))
unique-node (node.Axiom n es fs) (node.Beta t') ls r s one other = absurd (clash word.Axiom word.Beta ls (λ e. absurd (cc)) (word-first (node.Axiom n es fs) ls (Marked mark.Bar ∷ r) one) (word-first (node.Beta t') ls (Marked mark.Bar ∷ s) other))
unique-node (node.Axiom n es fs) (node.Refl t') ls r s one other = absurd (clash word.Axiom word.Refl ls (λ e. absurd (cc)) (word-first (node.Axiom n es fs) ls (Marked mark.Bar ∷ r) one) (word-first (node.Refl t') ls (Marked mark.Bar ∷ s) other))
unique-node (node.Axiom n es fs) (node.Subst p' x' y') ls r s one other = absurd (clash word.Axiom word.Subst ls (λ e. absurd (cc)) (word-first (node.Axiom n es fs) ls (Marked mark.Bar ∷ r) one) (word-first (node.Subst p' x' y') ls (Marked mark.Bar ∷ s) other))
unique-node (node.Axiom n es fs) (node.Ext f' g') ls r s one other = absurd (clash word.Axiom word.Ext ls (λ e. absurd (cc)) (word-first (node.Axiom n es fs) ls (Marked mark.Bar ∷ r) one) (word-first (node.Ext f' g') ls (Marked mark.Bar ∷ s) other))
unique-node (node.Axiom n es fs) (node.Iff x' y') ls r s one other = absurd (clash word.Axiom word.Iff ls (λ e. absurd (cc)) (word-first (node.Axiom n es fs) ls (Marked mark.Bar ∷ r) one) (word-first (node.Iff x' y') ls (Marked mark.Bar ∷ s) other))
unique-node (node.Assume p) (node.Axiom n' es' fs') ls r s one other = absurd (clash word.Assume word.Axiom ls (λ e. absurd (cc)) (word-first (node.Assume p) ls (Marked mark.Bar ∷ r) one) (word-first (node.Axiom n' es' fs') ls (Marked mark.Bar ∷ s) other))
unique-node (node.Assume p) (node.AllIntro v' k') ls r s one other = absurd (clash word.Assume word.AllIntro ls (λ e. absurd (cc)) (word-first (node.Assume p) ls (Marked mark.Bar ∷ r) one) (word-first (node.AllIntro v' k') ls (Marked mark.Bar ∷ s) other))
unique-node (node.Assume p) (node.AllElim t' k') ls r s one other = absurd (clash word.Assume word.AllElim ls (λ e. absurd (cc)) (word-first (node.Assume p) ls (Marked mark.Bar ∷ r) one) (word-first (node.AllElim t' k') ls (Marked mark.Bar ∷ s) other))
unique-node (node.Assume p) (node.ImpIntro p' k') ls r s one other = absurd (clash word.Assume word.ImpIntro ls (λ e. absurd (cc)) (word-first (node.Assume p) ls (Marked mark.Bar ∷ r) one) (word-first (node.ImpIntro p' k') ls (Marked mark.Bar ∷ s) other))
unique-node (node.Assume p) (node.ImpElim i' j') ls r s one other = absurd (clash word.Assume word.ImpElim ls (λ e. absurd (cc)) (word-first (node.Assume p) ls (Marked mark.Bar ∷ r) one) (word-first (node.ImpElim i' j') ls (Marked mark.Bar ∷ s) other))
unique-node (node.Assume p) (node.Beta t') ls r s one other = absurd (clash word.Assume word.Beta ls (λ e. absurd (cc)) (word-first (node.Assume p) ls (Marked mark.Bar ∷ r) one) (word-first (node.Beta t') ls (Marked mark.Bar ∷ s) other))
unique-node (node.Assume p) (node.Refl t') ls r s one other = absurd (clash word.Assume word.Refl ls (λ e. absurd (cc)) (word-first (node.Assume p) ls (Marked mark.Bar ∷ r) one) (word-first (node.Refl t') ls (Marked mark.Bar ∷ s) other))
unique-node (node.Assume p) (node.Subst p' x' y') ls r s one other = absurd (clash word.Assume word.Subst ls (λ e. absurd (cc)) (word-first (node.Assume p) ls (Marked mark.Bar ∷ r) one) (word-first (node.Subst p' x' y') ls (Marked mark.Bar ∷ s) other))
unique-node (node.Assume p) (node.Ext f' g') ls r s one other = absurd (clash word.Assume word.Ext ls (λ e. absurd (cc)) (word-first (node.Assume p) ls (Marked mark.Bar ∷ r) one) (word-first (node.Ext f' g') ls (Marked mark.Bar ∷ s) other))
unique-node (node.Assume p) (node.Iff x' y') ls r s one other = absurd (clash word.Assume word.Iff ls (λ e. absurd (cc)) (word-first (node.Assume p) ls (Marked mark.Bar ∷ r) one) (word-first (node.Iff x' y') ls (Marked mark.Bar ∷ s) other))
unique-node (node.AllIntro v k) (node.Axiom n' es' fs') ls r s one other = absurd (clash word.AllIntro word.Axiom ls (λ e. absurd (cc)) (word-first (node.AllIntro v k) ls (Marked mark.Bar ∷ r) one) (word-first (node.Axiom n' es' fs') ls (Marked mark.Bar ∷ s) other))
unique-node (node.AllIntro v k) (node.Assume p') ls r s one other = absurd (clash word.AllIntro word.Assume ls (λ e. absurd (cc)) (word-first (node.AllIntro v k) ls (Marked mark.Bar ∷ r) one) (word-first (node.Assume p') ls (Marked mark.Bar ∷ s) other))
unique-node (node.AllIntro v k) (node.AllElim t' k') ls r s one other = absurd (clash word.AllIntro word.AllElim ls (λ e. absurd (cc)) (word-first (node.AllIntro v k) ls (Marked mark.Bar ∷ r) one) (word-first (node.AllElim t' k') ls (Marked mark.Bar ∷ s) other))
unique-node (node.AllIntro v k) (node.ImpIntro p' k') ls r s one other = absurd (clash word.AllIntro word.ImpIntro ls (λ e. absurd (cc)) (word-first (node.AllIntro v k) ls (Marked mark.Bar ∷ r) one) (word-first (node.ImpIntro p' k') ls (Marked mark.Bar ∷ s) other))
unique-node (node.AllIntro v k) (node.ImpElim i' j') ls r s one other = absurd (clash word.AllIntro word.ImpElim ls (λ e. absurd (cc)) (word-first (node.AllIntro v k) ls (Marked mark.Bar ∷ r) one) (word-first (node.ImpElim i' j') ls (Marked mark.Bar ∷ s) other))
unique-node (node.AllIntro v k) (node.Beta t') ls r s one other = absurd (clash word.AllIntro word.Beta ls (λ e. absurd (cc)) (word-first (node.AllIntro v k) ls (Marked mark.Bar ∷ r) one) (word-first (node.Beta t') ls (Marked mark.Bar ∷ s) other))
unique-node (node.AllIntro v k) (node.Refl t') ls r s one other = absurd (clash word.AllIntro word.Refl ls (λ e. absurd (cc)) (word-first (node.AllIntro v k) ls (Marked mark.Bar ∷ r) one) (word-first (node.Refl t') ls (Marked mark.Bar ∷ s) other))
unique-node (node.AllIntro v k) (node.Subst p' x' y') ls r s one other = absurd (clash word.AllIntro word.Subst ls (λ e. absurd (cc)) (word-first (node.AllIntro v k) ls (Marked mark.Bar ∷ r) one) (word-first (node.Subst p' x' y') ls (Marked mark.Bar ∷ s) other))
unique-node (node.AllIntro v k) (node.Ext f' g') ls r s one other = absurd (clash word.AllIntro word.Ext ls (λ e. absurd (cc)) (word-first (node.AllIntro v k) ls (Marked mark.Bar ∷ r) one) (word-first (node.Ext f' g') ls (Marked mark.Bar ∷ s) other))
unique-node (node.AllIntro v k) (node.Iff x' y') ls r s one other = absurd (clash word.AllIntro word.Iff ls (λ e. absurd (cc)) (word-first (node.AllIntro v k) ls (Marked mark.Bar ∷ r) one) (word-first (node.Iff x' y') ls (Marked mark.Bar ∷ s) other))
unique-node (node.AllElim t k) (node.Axiom n' es' fs') ls r s one other = absurd (clash word.AllElim word.Axiom ls (λ e. absurd (cc)) (word-first (node.AllElim t k) ls (Marked mark.Bar ∷ r) one) (word-first (node.Axiom n' es' fs') ls (Marked mark.Bar ∷ s) other))
unique-node (node.AllElim t k) (node.Assume p') ls r s one other = absurd (clash word.AllElim word.Assume ls (λ e. absurd (cc)) (word-first (node.AllElim t k) ls (Marked mark.Bar ∷ r) one) (word-first (node.Assume p') ls (Marked mark.Bar ∷ s) other))
unique-node (node.AllElim t k) (node.AllIntro v' k') ls r s one other = absurd (clash word.AllElim word.AllIntro ls (λ e. absurd (cc)) (word-first (node.AllElim t k) ls (Marked mark.Bar ∷ r) one) (word-first (node.AllIntro v' k') ls (Marked mark.Bar ∷ s) other))
unique-node (node.AllElim t k) (node.ImpIntro p' k') ls r s one other = absurd (clash word.AllElim word.ImpIntro ls (λ e. absurd (cc)) (word-first (node.AllElim t k) ls (Marked mark.Bar ∷ r) one) (word-first (node.ImpIntro p' k') ls (Marked mark.Bar ∷ s) other))
unique-node (node.AllElim t k) (node.ImpElim i' j') ls r s one other = absurd (clash word.AllElim word.ImpElim ls (λ e. absurd (cc)) (word-first (node.AllElim t k) ls (Marked mark.Bar ∷ r) one) (word-first (node.ImpElim i' j') ls (Marked mark.Bar ∷ s) other))
unique-node (node.AllElim t k) (node.Beta t') ls r s one other = absurd (clash word.AllElim word.Beta ls (λ e. absurd (cc)) (word-first (node.AllElim t k) ls (Marked mark.Bar ∷ r) one) (word-first (node.Beta t') ls (Marked mark.Bar ∷ s) other))
unique-node (node.AllElim t k) (node.Refl t') ls r s one other = absurd (clash word.AllElim word.Refl ls (λ e. absurd (cc)) (word-first (node.AllElim t k) ls (Marked mark.Bar ∷ r) one) (word-first (node.Refl t') ls (Marked mark.Bar ∷ s) other))
unique-node (node.AllElim t k) (node.Subst p' x' y') ls r s one other = absurd (clash word.AllElim word.Subst ls (λ e. absurd (cc)) (word-first (node.AllElim t k) ls (Marked mark.Bar ∷ r) one) (word-first (node.Subst p' x' y') ls (Marked mark.Bar ∷ s) other))
unique-node (node.AllElim t k) (node.Ext f' g') ls r s one other = absurd (clash word.AllElim word.Ext ls (λ e. absurd (cc)) (word-first (node.AllElim t k) ls (Marked mark.Bar ∷ r) one) (word-first (node.Ext f' g') ls (Marked mark.Bar ∷ s) other))
unique-node (node.AllElim t k) (node.Iff x' y') ls r s one other = absurd (clash word.AllElim word.Iff ls (λ e. absurd (cc)) (word-first (node.AllElim t k) ls (Marked mark.Bar ∷ r) one) (word-first (node.Iff x' y') ls (Marked mark.Bar ∷ s) other))
unique-node (node.ImpIntro p k) (node.Axiom n' es' fs') ls r s one other = absurd (clash word.ImpIntro word.Axiom ls (λ e. absurd (cc)) (word-first (node.ImpIntro p k) ls (Marked mark.Bar ∷ r) one) (word-first (node.Axiom n' es' fs') ls (Marked mark.Bar ∷ s) other))
unique-node (node.ImpIntro p k) (node.Assume p') ls r s one other = absurd (clash word.ImpIntro word.Assume ls (λ e. absurd (cc)) (word-first (node.ImpIntro p k) ls (Marked mark.Bar ∷ r) one) (word-first (node.Assume p') ls (Marked mark.Bar ∷ s) other))
unique-node (node.ImpIntro p k) (node.AllIntro v' k') ls r s one other = absurd (clash word.ImpIntro word.AllIntro ls (λ e. absurd (cc)) (word-first (node.ImpIntro p k) ls (Marked mark.Bar ∷ r) one) (word-first (node.AllIntro v' k') ls (Marked mark.Bar ∷ s) other))
unique-node (node.ImpIntro p k) (node.AllElim t' k') ls r s one other = absurd (clash word.ImpIntro word.AllElim ls (λ e. absurd (cc)) (word-first (node.ImpIntro p k) ls (Marked mark.Bar ∷ r) one) (word-first (node.AllElim t' k') ls (Marked mark.Bar ∷ s) other))
unique-node (node.ImpIntro p k) (node.ImpElim i' j') ls r s one other = absurd (clash word.ImpIntro word.ImpElim ls (λ e. absurd (cc)) (word-first (node.ImpIntro p k) ls (Marked mark.Bar ∷ r) one) (word-first (node.ImpElim i' j') ls (Marked mark.Bar ∷ s) other))
unique-node (node.ImpIntro p k) (node.Beta t') ls r s one other = absurd (clash word.ImpIntro word.Beta ls (λ e. absurd (cc)) (word-first (node.ImpIntro p k) ls (Marked mark.Bar ∷ r) one) (word-first (node.Beta t') ls (Marked mark.Bar ∷ s) other))
unique-node (node.ImpIntro p k) (node.Refl t') ls r s one other = absurd (clash word.ImpIntro word.Refl ls (λ e. absurd (cc)) (word-first (node.ImpIntro p k) ls (Marked mark.Bar ∷ r) one) (word-first (node.Refl t') ls (Marked mark.Bar ∷ s) other))
unique-node (node.ImpIntro p k) (node.Subst p' x' y') ls r s one other = absurd (clash word.ImpIntro word.Subst ls (λ e. absurd (cc)) (word-first (node.ImpIntro p k) ls (Marked mark.Bar ∷ r) one) (word-first (node.Subst p' x' y') ls (Marked mark.Bar ∷ s) other))
unique-node (node.ImpIntro p k) (node.Ext f' g') ls r s one other = absurd (clash word.ImpIntro word.Ext ls (λ e. absurd (cc)) (word-first (node.ImpIntro p k) ls (Marked mark.Bar ∷ r) one) (word-first (node.Ext f' g') ls (Marked mark.Bar ∷ s) other))
unique-node (node.ImpIntro p k) (node.Iff x' y') ls r s one other = absurd (clash word.ImpIntro word.Iff ls (λ e. absurd (cc)) (word-first (node.ImpIntro p k) ls (Marked mark.Bar ∷ r) one) (word-first (node.Iff x' y') ls (Marked mark.Bar ∷ s) other))
unique-node (node.ImpElim i j) (node.Axiom n' es' fs') ls r s one other = absurd (clash word.ImpElim word.Axiom ls (λ e. absurd (cc)) (word-first (node.ImpElim i j) ls (Marked mark.Bar ∷ r) one) (word-first (node.Axiom n' es' fs') ls (Marked mark.Bar ∷ s) other))
unique-node (node.ImpElim i j) (node.Assume p') ls r s one other = absurd (clash word.ImpElim word.Assume ls (λ e. absurd (cc)) (word-first (node.ImpElim i j) ls (Marked mark.Bar ∷ r) one) (word-first (node.Assume p') ls (Marked mark.Bar ∷ s) other))
unique-node (node.ImpElim i j) (node.AllIntro v' k') ls r s one other = absurd (clash word.ImpElim word.AllIntro ls (λ e. absurd (cc)) (word-first (node.ImpElim i j) ls (Marked mark.Bar ∷ r) one) (word-first (node.AllIntro v' k') ls (Marked mark.Bar ∷ s) other))
unique-node (node.ImpElim i j) (node.AllElim t' k') ls r s one other = absurd (clash word.ImpElim word.AllElim ls (λ e. absurd (cc)) (word-first (node.ImpElim i j) ls (Marked mark.Bar ∷ r) one) (word-first (node.AllElim t' k') ls (Marked mark.Bar ∷ s) other))
unique-node (node.ImpElim i j) (node.ImpIntro p' k') ls r s one other = absurd (clash word.ImpElim word.ImpIntro ls (λ e. absurd (cc)) (word-first (node.ImpElim i j) ls (Marked mark.Bar ∷ r) one) (word-first (node.ImpIntro p' k') ls (Marked mark.Bar ∷ s) other))
unique-node (node.ImpElim i j) (node.Beta t') ls r s one other = absurd (clash word.ImpElim word.Beta ls (λ e. absurd (cc)) (word-first (node.ImpElim i j) ls (Marked mark.Bar ∷ r) one) (word-first (node.Beta t') ls (Marked mark.Bar ∷ s) other))
unique-node (node.ImpElim i j) (node.Refl t') ls r s one other = absurd (clash word.ImpElim word.Refl ls (λ e. absurd (cc)) (word-first (node.ImpElim i j) ls (Marked mark.Bar ∷ r) one) (word-first (node.Refl t') ls (Marked mark.Bar ∷ s) other))
unique-node (node.ImpElim i j) (node.Subst p' x' y') ls r s one other = absurd (clash word.ImpElim word.Subst ls (λ e. absurd (cc)) (word-first (node.ImpElim i j) ls (Marked mark.Bar ∷ r) one) (word-first (node.Subst p' x' y') ls (Marked mark.Bar ∷ s) other))
unique-node (node.ImpElim i j) (node.Ext f' g') ls r s one other = absurd (clash word.ImpElim word.Ext ls (λ e. absurd (cc)) (word-first (node.ImpElim i j) ls (Marked mark.Bar ∷ r) one) (word-first (node.Ext f' g') ls (Marked mark.Bar ∷ s) other))
unique-node (node.ImpElim i j) (node.Iff x' y') ls r s one other = absurd (clash word.ImpElim word.Iff ls (λ e. absurd (cc)) (word-first (node.ImpElim i j) ls (Marked mark.Bar ∷ r) one) (word-first (node.Iff x' y') ls (Marked mark.Bar ∷ s) other))
unique-node (node.Beta t) (node.Axiom n' es' fs') ls r s one other = absurd (clash word.Beta word.Axiom ls (λ e. absurd (cc)) (word-first (node.Beta t) ls (Marked mark.Bar ∷ r) one) (word-first (node.Axiom n' es' fs') ls (Marked mark.Bar ∷ s) other))
unique-node (node.Beta t) (node.Assume p') ls r s one other = absurd (clash word.Beta word.Assume ls (λ e. absurd (cc)) (word-first (node.Beta t) ls (Marked mark.Bar ∷ r) one) (word-first (node.Assume p') ls (Marked mark.Bar ∷ s) other))
unique-node (node.Beta t) (node.AllIntro v' k') ls r s one other = absurd (clash word.Beta word.AllIntro ls (λ e. absurd (cc)) (word-first (node.Beta t) ls (Marked mark.Bar ∷ r) one) (word-first (node.AllIntro v' k') ls (Marked mark.Bar ∷ s) other))
unique-node (node.Beta t) (node.AllElim t' k') ls r s one other = absurd (clash word.Beta word.AllElim ls (λ e. absurd (cc)) (word-first (node.Beta t) ls (Marked mark.Bar ∷ r) one) (word-first (node.AllElim t' k') ls (Marked mark.Bar ∷ s) other))
unique-node (node.Beta t) (node.ImpIntro p' k') ls r s one other = absurd (clash word.Beta word.ImpIntro ls (λ e. absurd (cc)) (word-first (node.Beta t) ls (Marked mark.Bar ∷ r) one) (word-first (node.ImpIntro p' k') ls (Marked mark.Bar ∷ s) other))
unique-node (node.Beta t) (node.ImpElim i' j') ls r s one other = absurd (clash word.Beta word.ImpElim ls (λ e. absurd (cc)) (word-first (node.Beta t) ls (Marked mark.Bar ∷ r) one) (word-first (node.ImpElim i' j') ls (Marked mark.Bar ∷ s) other))
unique-node (node.Beta t) (node.Refl t') ls r s one other = absurd (clash word.Beta word.Refl ls (λ e. absurd (cc)) (word-first (node.Beta t) ls (Marked mark.Bar ∷ r) one) (word-first (node.Refl t') ls (Marked mark.Bar ∷ s) other))
unique-node (node.Beta t) (node.Subst p' x' y') ls r s one other = absurd (clash word.Beta word.Subst ls (λ e. absurd (cc)) (word-first (node.Beta t) ls (Marked mark.Bar ∷ r) one) (word-first (node.Subst p' x' y') ls (Marked mark.Bar ∷ s) other))
unique-node (node.Beta t) (node.Ext f' g') ls r s one other = absurd (clash word.Beta word.Ext ls (λ e. absurd (cc)) (word-first (node.Beta t) ls (Marked mark.Bar ∷ r) one) (word-first (node.Ext f' g') ls (Marked mark.Bar ∷ s) other))
unique-node (node.Beta t) (node.Iff x' y') ls r s one other = absurd (clash word.Beta word.Iff ls (λ e. absurd (cc)) (word-first (node.Beta t) ls (Marked mark.Bar ∷ r) one) (word-first (node.Iff x' y') ls (Marked mark.Bar ∷ s) other))
unique-node (node.Refl t) (node.Axiom n' es' fs') ls r s one other = absurd (clash word.Refl word.Axiom ls (λ e. absurd (cc)) (word-first (node.Refl t) ls (Marked mark.Bar ∷ r) one) (word-first (node.Axiom n' es' fs') ls (Marked mark.Bar ∷ s) other))
unique-node (node.Refl t) (node.Assume p') ls r s one other = absurd (clash word.Refl word.Assume ls (λ e. absurd (cc)) (word-first (node.Refl t) ls (Marked mark.Bar ∷ r) one) (word-first (node.Assume p') ls (Marked mark.Bar ∷ s) other))
unique-node (node.Refl t) (node.AllIntro v' k') ls r s one other = absurd (clash word.Refl word.AllIntro ls (λ e. absurd (cc)) (word-first (node.Refl t) ls (Marked mark.Bar ∷ r) one) (word-first (node.AllIntro v' k') ls (Marked mark.Bar ∷ s) other))
unique-node (node.Refl t) (node.AllElim t' k') ls r s one other = absurd (clash word.Refl word.AllElim ls (λ e. absurd (cc)) (word-first (node.Refl t) ls (Marked mark.Bar ∷ r) one) (word-first (node.AllElim t' k') ls (Marked mark.Bar ∷ s) other))
unique-node (node.Refl t) (node.ImpIntro p' k') ls r s one other = absurd (clash word.Refl word.ImpIntro ls (λ e. absurd (cc)) (word-first (node.Refl t) ls (Marked mark.Bar ∷ r) one) (word-first (node.ImpIntro p' k') ls (Marked mark.Bar ∷ s) other))
unique-node (node.Refl t) (node.ImpElim i' j') ls r s one other = absurd (clash word.Refl word.ImpElim ls (λ e. absurd (cc)) (word-first (node.Refl t) ls (Marked mark.Bar ∷ r) one) (word-first (node.ImpElim i' j') ls (Marked mark.Bar ∷ s) other))
unique-node (node.Refl t) (node.Beta t') ls r s one other = absurd (clash word.Refl word.Beta ls (λ e. absurd (cc)) (word-first (node.Refl t) ls (Marked mark.Bar ∷ r) one) (word-first (node.Beta t') ls (Marked mark.Bar ∷ s) other))
unique-node (node.Refl t) (node.Subst p' x' y') ls r s one other = absurd (clash word.Refl word.Subst ls (λ e. absurd (cc)) (word-first (node.Refl t) ls (Marked mark.Bar ∷ r) one) (word-first (node.Subst p' x' y') ls (Marked mark.Bar ∷ s) other))
unique-node (node.Refl t) (node.Ext f' g') ls r s one other = absurd (clash word.Refl word.Ext ls (λ e. absurd (cc)) (word-first (node.Refl t) ls (Marked mark.Bar ∷ r) one) (word-first (node.Ext f' g') ls (Marked mark.Bar ∷ s) other))
unique-node (node.Refl t) (node.Iff x' y') ls r s one other = absurd (clash word.Refl word.Iff ls (λ e. absurd (cc)) (word-first (node.Refl t) ls (Marked mark.Bar ∷ r) one) (word-first (node.Iff x' y') ls (Marked mark.Bar ∷ s) other))
unique-node (node.Subst p x y) (node.Axiom n' es' fs') ls r s one other = absurd (clash word.Subst word.Axiom ls (λ e. absurd (cc)) (word-first (node.Subst p x y) ls (Marked mark.Bar ∷ r) one) (word-first (node.Axiom n' es' fs') ls (Marked mark.Bar ∷ s) other))
unique-node (node.Subst p x y) (node.Assume p') ls r s one other = absurd (clash word.Subst word.Assume ls (λ e. absurd (cc)) (word-first (node.Subst p x y) ls (Marked mark.Bar ∷ r) one) (word-first (node.Assume p') ls (Marked mark.Bar ∷ s) other))
unique-node (node.Subst p x y) (node.AllIntro v' k') ls r s one other = absurd (clash word.Subst word.AllIntro ls (λ e. absurd (cc)) (word-first (node.Subst p x y) ls (Marked mark.Bar ∷ r) one) (word-first (node.AllIntro v' k') ls (Marked mark.Bar ∷ s) other))
unique-node (node.Subst p x y) (node.AllElim t' k') ls r s one other = absurd (clash word.Subst word.AllElim ls (λ e. absurd (cc)) (word-first (node.Subst p x y) ls (Marked mark.Bar ∷ r) one) (word-first (node.AllElim t' k') ls (Marked mark.Bar ∷ s) other))
unique-node (node.Subst p x y) (node.ImpIntro p' k') ls r s one other = absurd (clash word.Subst word.ImpIntro ls (λ e. absurd (cc)) (word-first (node.Subst p x y) ls (Marked mark.Bar ∷ r) one) (word-first (node.ImpIntro p' k') ls (Marked mark.Bar ∷ s) other))
unique-node (node.Subst p x y) (node.ImpElim i' j') ls r s one other = absurd (clash word.Subst word.ImpElim ls (λ e. absurd (cc)) (word-first (node.Subst p x y) ls (Marked mark.Bar ∷ r) one) (word-first (node.ImpElim i' j') ls (Marked mark.Bar ∷ s) other))
unique-node (node.Subst p x y) (node.Beta t') ls r s one other = absurd (clash word.Subst word.Beta ls (λ e. absurd (cc)) (word-first (node.Subst p x y) ls (Marked mark.Bar ∷ r) one) (word-first (node.Beta t') ls (Marked mark.Bar ∷ s) other))
unique-node (node.Subst p x y) (node.Refl t') ls r s one other = absurd (clash word.Subst word.Refl ls (λ e. absurd (cc)) (word-first (node.Subst p x y) ls (Marked mark.Bar ∷ r) one) (word-first (node.Refl t') ls (Marked mark.Bar ∷ s) other))
unique-node (node.Subst p x y) (node.Ext f' g') ls r s one other = absurd (clash word.Subst word.Ext ls (λ e. absurd (cc)) (word-first (node.Subst p x y) ls (Marked mark.Bar ∷ r) one) (word-first (node.Ext f' g') ls (Marked mark.Bar ∷ s) other))
unique-node (node.Subst p x y) (node.Iff x' y') ls r s one other = absurd (clash word.Subst word.Iff ls (λ e. absurd (cc)) (word-first (node.Subst p x y) ls (Marked mark.Bar ∷ r) one) (word-first (node.Iff x' y') ls (Marked mark.Bar ∷ s) other))
unique-node (node.Ext f g) (node.Axiom n' es' fs') ls r s one other = absurd (clash word.Ext word.Axiom ls (λ e. absurd (cc)) (word-first (node.Ext f g) ls (Marked mark.Bar ∷ r) one) (word-first (node.Axiom n' es' fs') ls (Marked mark.Bar ∷ s) other))
unique-node (node.Ext f g) (node.Assume p') ls r s one other = absurd (clash word.Ext word.Assume ls (λ e. absurd (cc)) (word-first (node.Ext f g) ls (Marked mark.Bar ∷ r) one) (word-first (node.Assume p') ls (Marked mark.Bar ∷ s) other))
unique-node (node.Ext f g) (node.AllIntro v' k') ls r s one other = absurd (clash word.Ext word.AllIntro ls (λ e. absurd (cc)) (word-first (node.Ext f g) ls (Marked mark.Bar ∷ r) one) (word-first (node.AllIntro v' k') ls (Marked mark.Bar ∷ s) other))
unique-node (node.Ext f g) (node.AllElim t' k') ls r s one other = absurd (clash word.Ext word.AllElim ls (λ e. absurd (cc)) (word-first (node.Ext f g) ls (Marked mark.Bar ∷ r) one) (word-first (node.AllElim t' k') ls (Marked mark.Bar ∷ s) other))
unique-node (node.Ext f g) (node.ImpIntro p' k') ls r s one other = absurd (clash word.Ext word.ImpIntro ls (λ e. absurd (cc)) (word-first (node.Ext f g) ls (Marked mark.Bar ∷ r) one) (word-first (node.ImpIntro p' k') ls (Marked mark.Bar ∷ s) other))
unique-node (node.Ext f g) (node.ImpElim i' j') ls r s one other = absurd (clash word.Ext word.ImpElim ls (λ e. absurd (cc)) (word-first (node.Ext f g) ls (Marked mark.Bar ∷ r) one) (word-first (node.ImpElim i' j') ls (Marked mark.Bar ∷ s) other))
unique-node (node.Ext f g) (node.Beta t') ls r s one other = absurd (clash word.Ext word.Beta ls (λ e. absurd (cc)) (word-first (node.Ext f g) ls (Marked mark.Bar ∷ r) one) (word-first (node.Beta t') ls (Marked mark.Bar ∷ s) other))
unique-node (node.Ext f g) (node.Refl t') ls r s one other = absurd (clash word.Ext word.Refl ls (λ e. absurd (cc)) (word-first (node.Ext f g) ls (Marked mark.Bar ∷ r) one) (word-first (node.Refl t') ls (Marked mark.Bar ∷ s) other))
unique-node (node.Ext f g) (node.Subst p' x' y') ls r s one other = absurd (clash word.Ext word.Subst ls (λ e. absurd (cc)) (word-first (node.Ext f g) ls (Marked mark.Bar ∷ r) one) (word-first (node.Subst p' x' y') ls (Marked mark.Bar ∷ s) other))
unique-node (node.Ext f g) (node.Iff x' y') ls r s one other = absurd (clash word.Ext word.Iff ls (λ e. absurd (cc)) (word-first (node.Ext f g) ls (Marked mark.Bar ∷ r) one) (word-first (node.Iff x' y') ls (Marked mark.Bar ∷ s) other))
unique-node (node.Iff x y) (node.Axiom n' es' fs') ls r s one other = absurd (clash word.Iff word.Axiom ls (λ e. absurd (cc)) (word-first (node.Iff x y) ls (Marked mark.Bar ∷ r) one) (word-first (node.Axiom n' es' fs') ls (Marked mark.Bar ∷ s) other))
unique-node (node.Iff x y) (node.Assume p') ls r s one other = absurd (clash word.Iff word.Assume ls (λ e. absurd (cc)) (word-first (node.Iff x y) ls (Marked mark.Bar ∷ r) one) (word-first (node.Assume p') ls (Marked mark.Bar ∷ s) other))
unique-node (node.Iff x y) (node.AllIntro v' k') ls r s one other = absurd (clash word.Iff word.AllIntro ls (λ e. absurd (cc)) (word-first (node.Iff x y) ls (Marked mark.Bar ∷ r) one) (word-first (node.AllIntro v' k') ls (Marked mark.Bar ∷ s) other))
unique-node (node.Iff x y) (node.AllElim t' k') ls r s one other = absurd (clash word.Iff word.AllElim ls (λ e. absurd (cc)) (word-first (node.Iff x y) ls (Marked mark.Bar ∷ r) one) (word-first (node.AllElim t' k') ls (Marked mark.Bar ∷ s) other))
unique-node (node.Iff x y) (node.ImpIntro p' k') ls r s one other = absurd (clash word.Iff word.ImpIntro ls (λ e. absurd (cc)) (word-first (node.Iff x y) ls (Marked mark.Bar ∷ r) one) (word-first (node.ImpIntro p' k') ls (Marked mark.Bar ∷ s) other))
unique-node (node.Iff x y) (node.ImpElim i' j') ls r s one other = absurd (clash word.Iff word.ImpElim ls (λ e. absurd (cc)) (word-first (node.Iff x y) ls (Marked mark.Bar ∷ r) one) (word-first (node.ImpElim i' j') ls (Marked mark.Bar ∷ s) other))
unique-node (node.Iff x y) (node.Beta t') ls r s one other = absurd (clash word.Iff word.Beta ls (λ e. absurd (cc)) (word-first (node.Iff x y) ls (Marked mark.Bar ∷ r) one) (word-first (node.Beta t') ls (Marked mark.Bar ∷ s) other))
unique-node (node.Iff x y) (node.Refl t') ls r s one other = absurd (clash word.Iff word.Refl ls (λ e. absurd (cc)) (word-first (node.Iff x y) ls (Marked mark.Bar ∷ r) one) (word-first (node.Refl t') ls (Marked mark.Bar ∷ s) other))
unique-node (node.Iff x y) (node.Subst p' x' y') ls r s one other = absurd (clash word.Iff word.Subst ls (λ e. absurd (cc)) (word-first (node.Iff x y) ls (Marked mark.Bar ∷ r) one) (word-first (node.Subst p' x' y') ls (Marked mark.Bar ∷ s) other))
unique-node (node.Iff x y) (node.Ext f' g') ls r s one other = absurd (clash word.Iff word.Ext ls (λ e. absurd (cc)) (word-first (node.Iff x y) ls (Marked mark.Bar ∷ r) one) (word-first (node.Ext f' g') ls (Marked mark.Bar ∷ s) other))

unique-lines : (ns ms : List Node) (ls : List Lexeme) → AreLines ns ls → AreLines ms ls → ns ≡ ms
unique-lines [] [] ls e f = refl
unique-lines [] (m ∷ ms) ls e (a, is, more) =
    let b = word-first m ls (Marked mark.Bar ∷ a) is in
    let h : Marked mark.End ∷ Marked mark.SourceEnd ∷ [] ≡ Identifier b.0 (node_word m) ∷ b.1 = sym e ∙ b.2 in
    absurd (cc)
unique-lines (n ∷ ns) [] ls (a, is, more) f =
    let b = word-first n ls (Marked mark.Bar ∷ a) is in
    let h : Identifier b.0 (node_word n) ∷ b.1 ≡ Marked mark.End ∷ Marked mark.SourceEnd ∷ [] = sym b.2 ∙ f in
    absurd (cc)
unique-lines (n ∷ ns) (m ∷ ms) ls (a, is, more) (b, are, others) =
    let first = unique-node n m ls a b is are in
    let rest = unique-lines ns ms a more (subst (AreLines ms) (sym first.1) others) in
    (λ i. first.0 i ∷ rest i)

-- ---- items
unique-item : (i j : Item) (ls r s : List Lexeme) → IsItem i ls (Marked mark.Bar ∷ r) → IsItem j ls (Marked mark.Bar ∷ s) → (i ≡ j) × (r ≡ s)
unique-item (item.TypeDecl k p) (item.TypeDecl l q) ls r s (n, w, e, f) (m, v, g, h) =
    let x : Marked mark.Typedecl ∷ Identifier n w ∷ Numeral p ∷ Marked mark.Bar ∷ r ≡ Marked mark.Typedecl ∷ Identifier m v ∷ Numeral q ∷ Marked mark.Bar ∷ s = sym f ∙ h in
    let a : n ≡ m = cc in
    let b : w ≡ v = cc in
    let c : p ≡ q = cc in
    let d : r ≡ s = cc in
    let name : k ≡ l = e ∙ (λ i. typ_name (a i) (b i)) ∙ sym g in
    ((λ i. item.TypeDecl (name i) (c i)), d)
unique-item (item.Const c T) (item.Const d U) ls r s (n, w, a, e, f, one) (m, v, b, g, k, other) =
    let h : Marked mark.Consts ∷ Identifier n w ∷ Marked mark.DoubleColon ∷ a ≡ Marked mark.Consts ∷ Identifier m v ∷ Marked mark.DoubleColon ∷ b = sym f ∙ k in
    let p : n ≡ m = cc in
    let q : w ≡ v = cc in
    let l : a ≡ b = cc in
    let name : c ≡ d = e ∙ (λ i. constant_name (p i) (q i)) ∙ sym g in
    let rest = typ-before mark.Bar T U a r s refl refl one (subst (λ z. IsTyp U z (Marked mark.Bar ∷ s)) (sym l) other) in
    ((λ i. item.Const (name i) (rest.0 i)), rest.1)
unique-item (item.Axiom x p) (item.Axiom y q) ls r s (w, a, e, one) (v, b, f, other) =
    let h : Marked mark.Axiomatization ∷ Identifier x w ∷ Marked mark.Colon ∷ a ≡ Marked mark.Axiomatization ∷ Identifier y v ∷ Marked mark.Colon ∷ b = sym e ∙ f in
    let n : x ≡ y = cc in
    let l : a ≡ b = cc in
    let rest = term-before (Marked mark.Bar) p q a r s one (subst (λ z. IsTerm q z (Marked mark.Bar ∷ s)) (sym l) other) in
    ((λ i. item.Axiom (n i) (rest.0 i)), rest.1)
unique-item (item.TypeDecl k p) (item.Const l q) ls r s (n, w, x, e) (m, v, b, y, f, u) = let h : Marked mark.Typedecl ∷ Identifier n w ∷ Numeral p ∷ Marked mark.Bar ∷ r ≡ Marked mark.Consts ∷ Identifier m v ∷ Marked mark.DoubleColon ∷ b = sym e ∙ f in absurd (cc)
unique-item (item.TypeDecl k p) (item.Axiom l q) ls r s (n, w, x, e) (v, b, f, u) = let h : Marked mark.Typedecl ∷ Identifier n w ∷ Numeral p ∷ Marked mark.Bar ∷ r ≡ Marked mark.Axiomatization ∷ Identifier l v ∷ Marked mark.Colon ∷ b = sym e ∙ f in absurd (cc)
unique-item (item.Const k p) (item.TypeDecl l q) ls r s (n, w, a, x, e, t) (m, v, y, f) = let h : Marked mark.Consts ∷ Identifier n w ∷ Marked mark.DoubleColon ∷ a ≡ Marked mark.Typedecl ∷ Identifier m v ∷ Numeral q ∷ Marked mark.Bar ∷ s = sym e ∙ f in absurd (cc)
unique-item (item.Const k p) (item.Axiom l q) ls r s (n, w, a, x, e, t) (v, b, f, u) = let h : Marked mark.Consts ∷ Identifier n w ∷ Marked mark.DoubleColon ∷ a ≡ Marked mark.Axiomatization ∷ Identifier l v ∷ Marked mark.Colon ∷ b = sym e ∙ f in absurd (cc)
unique-item (item.Axiom k p) (item.TypeDecl l q) ls r s (w, a, e, t) (m, v, y, f) = let h : Marked mark.Axiomatization ∷ Identifier k w ∷ Marked mark.Colon ∷ a ≡ Marked mark.Typedecl ∷ Identifier m v ∷ Numeral q ∷ Marked mark.Bar ∷ s = sym e ∙ f in absurd (cc)
unique-item (item.Axiom k p) (item.Const l q) ls r s (w, a, e, t) (m, v, b, y, f, u) = let h : Marked mark.Axiomatization ∷ Identifier k w ∷ Marked mark.Colon ∷ a ≡ Marked mark.Consts ∷ Identifier m v ∷ Marked mark.DoubleColon ∷ b = sym e ∙ f in absurd (cc)

no-item : (i : Item) (ns : List Node) (ls r : List Lexeme) → IsItem i ls (Marked mark.Bar ∷ r) → AreLines ns ls → ⊥
no-item (item.TypeDecl k p) [] ls r (n, w, x, e) f = let h : Marked mark.Typedecl ∷ Identifier n w ∷ Numeral p ∷ Marked mark.Bar ∷ r ≡ Marked mark.End ∷ Marked mark.SourceEnd ∷ [] = sym e ∙ f in absurd (cc)
no-item (item.TypeDecl k p) (c ∷ ns) ls r (n, w, x, e) (d, is, more) = let b = word-first c ls (Marked mark.Bar ∷ d) is in let h : Marked mark.Typedecl ∷ Identifier n w ∷ Numeral p ∷ Marked mark.Bar ∷ r ≡ Identifier b.0 (node_word c) ∷ b.1 = sym e ∙ b.2 in absurd (cc)
no-item (item.Const k p) [] ls r (n, w, a, x, e, t) f = let h : Marked mark.Consts ∷ Identifier n w ∷ Marked mark.DoubleColon ∷ a ≡ Marked mark.End ∷ Marked mark.SourceEnd ∷ [] = sym e ∙ f in absurd (cc)
no-item (item.Const k p) (c ∷ ns) ls r (n, w, a, x, e, t) (d, is, more) = let b = word-first c ls (Marked mark.Bar ∷ d) is in let h : Marked mark.Consts ∷ Identifier n w ∷ Marked mark.DoubleColon ∷ a ≡ Identifier b.0 (node_word c) ∷ b.1 = sym e ∙ b.2 in absurd (cc)
no-item (item.Axiom k p) [] ls r (w, a, e, t) f = let h : Marked mark.Axiomatization ∷ Identifier k w ∷ Marked mark.Colon ∷ a ≡ Marked mark.End ∷ Marked mark.SourceEnd ∷ [] = sym e ∙ f in absurd (cc)
no-item (item.Axiom k p) (c ∷ ns) ls r (w, a, e, t) (d, is, more) = let b = word-first c ls (Marked mark.Bar ∷ d) is in let h : Marked mark.Axiomatization ∷ Identifier k w ∷ Marked mark.Colon ∷ a ≡ Identifier b.0 (node_word c) ∷ b.1 = sym e ∙ b.2 in absurd (cc)

unique-items : (is js : List Item) (ns ms : List Node) (ls : List Lexeme) → AreItems is ns ls → AreItems js ms ls → (is ≡ js) × (ns ≡ ms)
unique-items [] [] ns ms ls one other = (refl, unique-lines ns ms ls one other)
unique-items [] (j ∷ js) ns ms ls one (b, other, more) = absurd (no-item j ns ls b other one)
unique-items (i ∷ is) [] ns ms ls (a, one, more) other = absurd (no-item i ms ls a one other)
unique-items (i ∷ is) (j ∷ js) ns ms ls (a, one, more) (b, other, others) =
    let first = unique-item i j ls a b one other in
    let rest = unique-items is js ns ms a more (subst (AreItems js ms) (sym first.1) others) in
    ((λ k. first.0 k ∷ rest.0 k), rest.1)

pub unique-record : (is js : List Item) (ns ms : List Node) (ls : List Lexeme) → IsRecord is ns ls → IsRecord js ms ls → (is ≡ js) × (ns ≡ ms)
unique-record is js ns ms ls (a, e, one) (b, f, other) =
    let h : Marked mark.Begin ∷ a ≡ Marked mark.Begin ∷ b = sym e ∙ f in
    let l : a ≡ b = cc in
    unique-items is js ns ms a one (subst (AreItems js ms) (sym l) other)

-- ---- tokens
any-in : (t : List ℕ) (xs : List (List ℕ)) → list_any (same t) xs ≡ true → IsIn t xs
any-in t [] e = absurd (cc)
any-in t (x ∷ xs) e = elim (or_cases (same t x) (list_any (same t) xs) e) [ inl h ↦ inl (same_text t x (sym h)) | inr h ↦ inr (any-in t xs h) ]

in-any : (t : List ℕ) (xs : List (List ℕ)) → IsIn t xs → list_any (same t) xs ≡ true
in-any t [] m = absurd m
in-any t (x ∷ xs) (inl e) = let yes_so : same t x ≡ true = rw e (nat_list_eq_equiv.refl x) in rw yes_so refl
in-any t (x ∷ xs) (inr m) = later (same t x) (in-any t xs m)
  where
    later : (b : Bool) → list_any (same t) xs ≡ true → (b || list_any (same t) xs) ≡ true
    later true h = refl
    later false h = h

told : (source : List ℕ) (tokens : List Token) (texts others : List (List ℕ)) → AreNamesOf source tokens texts → AreNamesOf source tokens others → (t : List ℕ) → IsIn t texts → IsIn t others
told source tokens texts others a b t m = (b.given t).1 ((a.given t).0 m)

same-told : (texts others : List (List ℕ)) → ((t : List ℕ) → IsIn t texts → IsIn t others) → ((t : List ℕ) → IsIn t others → IsIn t texts) → (t : List ℕ) → list_any (same t) texts ≡ list_any (same t) others
same-told texts others up down t = decide (list_any (same t) texts) refl (list_any (same t) others) refl
  where
    decide : (a : Bool) → list_any (same t) texts ≡ a → (b : Bool) → list_any (same t) others ≡ b → list_any (same t) texts ≡ list_any (same t) others
    decide true p true q = p ∙ sym q
    decide false p false q = p ∙ sym q
    decide true p false q = absurd (both_ways (list_any (same t) others) q (in-any t others (up t (any-in t texts p))))
    decide false p true q = absurd (both_ways (list_any (same t) texts) p (in-any t texts (down t (any-in t others q))))

one-names : (source : List ℕ) (tokens : List Token) (texts others : List (List ℕ)) → AreNamesOf source tokens texts → AreNamesOf source tokens others → texts ≡ others
one-names source tokens texts others a b =
    ascending_once texts others a.ascend b.ascend (same-told texts others (told source tokens texts others a b) (told source tokens others texts b a))

pub one_record : OneRecord
one_record source tokens texts others is js ns ms a b =
    let names = one-names source tokens texts others a.names b.names in
    let rest = unique-record is js ns ms (lexemes texts source tokens) a.spelled (subst (λ z. IsRecord js ms (lexemes z source tokens)) (sym names) b.spelled) in
    (names, rest.0, rest.1)
