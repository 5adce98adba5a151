-- What the parts that are to come stand for, and that each of them can end.
use Rattle.std.proofs.Common.{◌≡◌, ◌⊎◌, inl, inr, ℕ, Bool, true, false, List, [], ◌∷◌, ◌++◌, refl, sym, ◌∙◌, ap, subst, append_assoc, Option, Some, None}
use Rattle.std.specs.Prelude.{option_map}
use Rattle.pure_definitions.specs.Types.Typ.{Typ, Typs, TFree, TVar, Con, none, also}
use Rattle.pure_definitions.specs.Terms.Term as term
use Rattle.pure_definitions.specs.Terms.Term.{Term}
use Rattle.pure_definitions.specs.Terms.Subst.{TypBind, TermBind}
use Rattle.pure_record.specs.Items as item
use Rattle.pure_record.specs.Items.{Item}
use Rattle.pure_record.specs.Lines as node
use Rattle.pure_record.specs.Lines.{Node}
use Rattle.pure_record.specs.Grammar.{typ_name, constant_name, IsTyp, AreArguments, AreMoreArguments, IsTerm, IsVariable, AreTypBinds, AreTermBinds, IsNode, AreLines, AreItems, IsRecord}
use Rattle.pure_record.specs.declared.lexeme.Mark.{Mark}
use Rattle.pure_record.specs.declared.lexeme.Mark.TheVariants as mark
use Rattle.pure_record.specs.declared.lexeme.Word.{Word}
use Rattle.pure_record.specs.declared.lexeme.Word.TheVariants as word
use Rattle.pure_record.specs.declared.lexeme.Lexeme.{Lexeme}
use Rattle.pure_record.specs.declared.lexeme.Lexeme.TheVariants.{Marked, Identifier, TypeVariable, SchematicType, SchematicTerm, Bound, Numeral}
use Rattle.pure_record.specs.declared.symbol.Symbol.{Symbol}
use Rattle.pure_record.specs.declared.symbol.Symbol.TheVariants as symbol
use Rattle.pure_record.specs.Machine.{is_mark, identifier_on, numeral_on, typ_on, arguments_on, more_arguments_on, term_on, in_parentheses_on, variable_on, variable_name_on, schematic_name_on, typ_binds_on, term_binds_on, node_on, lines_on, items_on, opened, passes, next}
use Rattle.pure_record.proofs.ReadLemmas.{mark-is}

-- The list is lexemes of the part, and then the rest. The lines, and what they end, stand at the end.
abbrev pub Form : Symbol → List Lexeme → List Lexeme → Type 0
Form (symbol.Just m) ls rest = ls ≡ Marked m ∷ rest
Form symbol.Identifier ls rest = (n : ℕ) × (w : Word) × (ls ≡ Identifier n w ∷ rest)
Form symbol.Numeral ls rest = (n : ℕ) × (ls ≡ Numeral n ∷ rest)
Form symbol.Typ ls rest = (t : Typ) × IsTyp t ls rest
Form symbol.Arguments ls rest = (ts : Typs) × AreArguments ts ls rest
Form symbol.MoreArguments ls rest = (ts : Typs) × AreMoreArguments ts ls rest
Form symbol.Term ls rest = (t : Term) × IsTerm t ls rest
Form symbol.InParentheses ls rest = (t : Term) × IsTerm t (Marked mark.OpenParenthesis ∷ ls) rest
Form symbol.Variable ls rest = (t : Term) × IsVariable t × IsTerm t ls rest
Form symbol.VariableName ls rest = ((n : ℕ) × (w : Word) × (ls ≡ Identifier n w ∷ rest)) ⊎ ((n i : ℕ) × (ls ≡ SchematicTerm n i ∷ rest))
Form symbol.SchematicName ls rest = (n i : ℕ) × (ls ≡ SchematicTerm n i ∷ rest)
Form symbol.TypBinds ls rest = (es : List TypBind) × AreTypBinds es ls rest
Form symbol.TermBinds ls rest = (es : List TermBind) × AreTermBinds es ls rest
Form symbol.Lines ls rest = rest ≡ [] → (lines : List Node) × AreLines lines ls
Form symbol.Items ls rest = rest ≡ [] → (is : List Item) × (lines : List Node) × AreItems is lines ls
Form symbol.Record ls rest = rest ≡ [] → (is : List Item) × (lines : List Node) × IsRecord is lines ls

abbrev pub Forms : List Symbol → List Lexeme → List Lexeme → Type 0
Forms [] ls rest = ls ≡ rest
Forms (x ∷ xs) ls rest = (mid : List Lexeme) × Form x ls mid × Forms xs mid rest

abbrev OpenForms : Option (List Symbol) → List Lexeme → List Lexeme → Type 0
OpenForms None ls rest = ⊥
OpenForms (Some xs) ls rest = Forms xs ls rest

abbrev marked : Mark → List Lexeme → List Lexeme
marked m ls = Marked m ∷ ls

-- ---- parts of terms
constant-form : (n : ℕ) (w : Word) (T : Typ) (ls a b c d : List Lexeme) → ls ≡ Identifier n w ∷ a → a ≡ marked mark.Colon b → IsTyp T b c → c ≡ marked mark.CloseBracket d
    → IsTerm (term.Const (constant_name n w) T) (marked mark.OpenBracket ls) d
constant-form n w T ls a b c d e f typ g = (n, w, b, refl, ap (marked mark.OpenBracket) (e ∙ ap (λ z. Identifier n w ∷ z) f), subst (IsTyp T b) g typ)

variable-form : (T : Typ) (ls a b c d : List Lexeme) → Form symbol.VariableName ls a → a ≡ marked mark.Colon b → IsTyp T b c → c ≡ marked mark.CloseBrace d → (t : Term) × IsVariable t × IsTerm t (marked mark.OpenBrace ls) d
variable-form T ls a b c d (inl (n, w, e)) f typ g =
    (term.Free n T, tt, (w, b, ap (marked mark.OpenBrace) (e ∙ ap (λ z. Identifier n w ∷ z) f), subst (IsTyp T b) g typ))
variable-form T ls a b c d (inr (n, i, e)) f typ g =
    (term.Var n i T, tt, (b, ap (marked mark.OpenBrace) (e ∙ ap (λ z. SchematicTerm n i ∷ z) f), subst (IsTyp T b) g typ))

app-form : (f t : Term) (ls d x y rest : List Lexeme) → IsTerm f ls d → IsTerm t d x → x ≡ marked mark.CloseParenthesis y → y ≡ rest → IsTerm (term.App f t) (marked mark.OpenParenthesis ls) rest
app-form f t ls d x y rest fun arg e g = (ls, d, refl, fun, subst (IsTerm t d) (e ∙ ap (marked mark.CloseParenthesis) g) arg)

-- ---- each part, opened by its first lexeme
form-just : (m : Mark) (l : Lexeme) (ls rest : List Lexeme) → OpenForms (opened (symbol.Just m) l) ls rest → l ∷ ls ≡ Marked m ∷ rest
form-just m l ls rest f = tell (is_mark m l) refl f
  where
    tell : (b : Bool) → is_mark m l ≡ b → OpenForms (opened (symbol.Just m) l) ls rest → l ∷ ls ≡ Marked m ∷ rest
    tell true h f = let e : ls ≡ rest = rw h at f in ap (λ z. z ∷ ls) (mark-is m l h) ∙ ap (λ z. Marked m ∷ z) e
    tell false h f = let bad : ⊥ = rw h at f in absurd bad

form-identifier : (l : Lexeme) (ls rest : List Lexeme) → OpenForms (identifier_on l) ls rest → Form symbol.Identifier (l ∷ ls) rest
form-identifier (Identifier n w) ls rest e = (n, w, ap (λ z. Identifier n w ∷ z) e)
form-identifier _ ls rest f = absurd f

form-numeral : (l : Lexeme) (ls rest : List Lexeme) → OpenForms (numeral_on l) ls rest → Form symbol.Numeral (l ∷ ls) rest
form-numeral (Numeral n) ls rest e = (n, ap (λ z. Numeral n ∷ z) e)
form-numeral _ ls rest f = absurd f

form-typ : (l : Lexeme) (ls rest : List Lexeme) → OpenForms (typ_on l) ls rest → Form symbol.Typ (l ∷ ls) rest
form-typ (TypeVariable n) ls rest e = (TFree n [], (refl, ap (λ z. TypeVariable n ∷ z) e))
form-typ (SchematicType n i) ls rest e = (TVar n i [], (refl, ap (λ z. SchematicType n i ∷ z) e))
form-typ (Identifier n w) ls rest (mid, (ts, args), e) = (Con (typ_name n w) ts, (n, w, ls, refl, refl, subst (AreArguments ts ls) e args))
form-typ _ ls rest f = absurd f

form-arguments : (l : Lexeme) (ls rest : List Lexeme) → OpenForms (arguments_on l) ls rest → Form symbol.Arguments (l ∷ ls) rest
form-arguments (Marked mark.OpenParenthesis) ls rest (a, (t, typ), (b, (ts, more), e)) = (also t ts, (ls, a, refl, typ, subst (AreMoreArguments ts a) e more))
form-arguments _ ls rest f = absurd f

form-more : (l : Lexeme) (ls rest : List Lexeme) → OpenForms (more_arguments_on l) ls rest → Form symbol.MoreArguments (l ∷ ls) rest
form-more (Marked mark.Comma) ls rest (a, (t, typ), (b, (ts, more), e)) = (also t ts, (ls, a, refl, typ, subst (AreMoreArguments ts a) e more))
form-more (Marked mark.CloseParenthesis) ls rest e = (none, ap (marked mark.CloseParenthesis) e)
form-more _ ls rest f = absurd f

form-term : (l : Lexeme) (ls rest : List Lexeme) → OpenForms (term_on l) ls rest → Form symbol.Term (l ∷ ls) rest
form-term (Marked mark.OpenBracket) ls rest (a, (n, w, e), (b, f, (c, (T, typ), (d, g, h)))) =
    (term.Const (constant_name n w) T, subst (IsTerm (term.Const (constant_name n w) T) (marked mark.OpenBracket ls)) h (constant-form n w T ls a b c d e f typ g))
form-term (Marked mark.OpenBrace) ls rest (a, name, (b, f, (c, (T, typ), (d, g, h)))) =
    let v = variable-form T ls a b c d name f typ g in (v.0, subst (IsTerm v.0 (marked mark.OpenBrace ls)) h v.2)
form-term (Bound k) ls rest e = (term.Bound k, ap (λ z. Bound k ∷ z) e)
form-term (Marked mark.OpenParenthesis) ls rest (a, (t, is), e) = (t, subst (IsTerm t (marked mark.OpenParenthesis ls)) e is)
form-term _ ls rest f = absurd f

form-inside : (l : Lexeme) (ls rest : List Lexeme) → OpenForms (in_parentheses_on l) ls rest → Form symbol.InParentheses (l ∷ ls) rest
form-inside (Marked mark.Percent) ls rest (a, (T, typ), (b, e, (c, (t, is), (d, g, h)))) =
    (term.Abs T t, (ls, b, refl, subst (IsTyp T ls) e typ, subst (IsTerm t b) (g ∙ ap (marked mark.CloseParenthesis) h) is))
form-inside (Marked mark.OpenBracket) ls rest (a, (n, w, e), (b, f, (c, (T, typ), (d, g, (x, (t, is), (y, i, j)))))) =
    (term.App (term.Const (constant_name n w) T) t, app-form (term.Const (constant_name n w) T) t (marked mark.OpenBracket ls) d x y rest (constant-form n w T ls a b c d e f typ g) is i j)
form-inside (Marked mark.OpenBrace) ls rest (a, name, (b, f, (c, (T, typ), (d, g, (x, (t, is), (y, i, j)))))) =
    let v = variable-form T ls a b c d name f typ g in (term.App v.0 t, app-form v.0 t (marked mark.OpenBrace ls) d x y rest v.2 is i j)
form-inside (Bound k) ls rest (x, (t, is), (y, i, j)) = (term.App (term.Bound k) t, app-form (term.Bound k) t (Bound k ∷ ls) ls x y rest refl is i j)
form-inside (Marked mark.OpenParenthesis) ls rest (a, (f, fun), (x, (t, is), (y, i, j))) = (term.App f t, app-form f t (marked mark.OpenParenthesis ls) a x y rest fun is i j)
form-inside _ ls rest f = absurd f

form-variable : (l : Lexeme) (ls rest : List Lexeme) → OpenForms (variable_on l) ls rest → Form symbol.Variable (l ∷ ls) rest
form-variable (Marked mark.OpenBrace) ls rest (a, name, (b, f, (c, (T, typ), (d, g, h)))) =
    let v = variable-form T ls a b c d name f typ g in (v.0, v.1, subst (IsTerm v.0 (marked mark.OpenBrace ls)) h v.2)
form-variable _ ls rest f = absurd f

form-variable_name : (l : Lexeme) (ls rest : List Lexeme) → OpenForms (variable_name_on l) ls rest → Form symbol.VariableName (l ∷ ls) rest
form-variable_name (Identifier n w) ls rest e = inl (n, w, ap (λ z. Identifier n w ∷ z) e)
form-variable_name (SchematicTerm n i) ls rest e = inr (n, i, ap (λ z. SchematicTerm n i ∷ z) e)
form-variable_name _ ls rest f = absurd f

form-schematic_name : (l : Lexeme) (ls rest : List Lexeme) → OpenForms (schematic_name_on l) ls rest → Form symbol.SchematicName (l ∷ ls) rest
form-schematic_name (SchematicTerm n i) ls rest e = (n, i, ap (λ z. SchematicTerm n i ∷ z) e)
form-schematic_name _ ls rest f = absurd f

form-typ_binds : (l : Lexeme) (ls rest : List Lexeme) → OpenForms (typ_binds_on l) ls rest → Form symbol.TypBinds (l ∷ ls) rest
form-typ_binds (SchematicType n i) ls rest (a, (T, typ), (b, e, (c, (es, more), f))) =
    (record { name = n; index = i; sort = []; image = T } ∷ es, (ls, b, refl, refl, subst (IsTyp T ls) e typ, subst (AreTypBinds es b) f more))
form-typ_binds (Marked mark.CloseBracket) ls rest e = ([], ap (marked mark.CloseBracket) e)
form-typ_binds _ ls rest f = absurd f

form-term_binds : (l : Lexeme) (ls rest : List Lexeme) → OpenForms (term_binds_on l) ls rest → Form symbol.TermBinds (l ∷ ls) rest
form-term_binds (Marked mark.OpenBrace) ls rest (a, (n, i, e), (b, f, (c, (T, typ), (d, g, (x, (t, is), (y, h, (z, (es, more), j))))))) = (
  record { name = n; index = i; typ = T; image = t } ∷ es,
  (d, y, (b, ap (marked mark.OpenBrace) (e ∙ ap (λ z. SchematicTerm n i ∷ z) f), subst (IsTyp T b) g typ), subst (IsTerm t d) h is, subst (AreTermBinds es y) j more),
)
form-term_binds (Marked mark.CloseBracket) ls rest e = ([], ap (marked mark.CloseBracket) e)
form-term_binds _ ls rest f = absurd f

-- ---- lines
abbrev end : List Symbol
end = symbol.Just mark.Bar ∷ symbol.Lines ∷ []

-- a line behind its word, and what stands behind it
abbrev LineForm : ℕ → Word → List Lexeme → List Lexeme → Type 0
LineForm m w ls rest = rest ≡ [] → (lines : List Node) × AreLines lines (Identifier m w ∷ ls)

ended : (x : Node) (ls b rest : List Lexeme) → ((c : List Lexeme) → b ≡ marked mark.Bar c → IsNode x ls (marked mark.Bar c)) → Forms end b rest → rest ≡ [] → (lines : List Node) × AreLines lines ls
ended x ls b rest is (c, e, (d, more, f)) nil = let w = more (f ∙ nil) in (x ∷ w.0, (c, is c e, w.1))

form-node : (m : ℕ) (w : Word) (ls rest : List Lexeme) → OpenForms (node_on w) ls rest → LineForm m w ls rest
form-node m word.Axiom ls rest (a, (n, w, e), (b, f, (c, (es, first), (d, g, (x, (fs, second), tail))))) =
    ended (node.Axiom n es fs) (Identifier m word.Axiom ∷ ls) x rest
    (λ y h. (w, b, d, (m, ap (λ z. Identifier m word.Axiom ∷ z) (e ∙ ap (λ z. Identifier n w ∷ z) f)), subst (AreTypBinds es b) g first, subst (AreTermBinds fs d) h second)) tail
form-node m word.Assume ls rest (a, (t, is), tail) = ended (node.Assume t) (Identifier m word.Assume ∷ ls) a rest (λ y h. (ls, (m, refl), subst (IsTerm t ls) h is)) tail
form-node m word.AllIntro ls rest (a, (t, v, is), (b, (n, e), tail)) =
    ended (node.AllIntro t n) (Identifier m word.AllIntro ∷ ls) b rest (λ y h. (ls, v, (m, refl), subst (IsTerm t ls) (e ∙ ap (λ z. Numeral n ∷ z) h) is)) tail
form-node m word.AllElim ls rest (a, (t, is), (b, (n, e), tail)) =
    ended (node.AllElim t n) (Identifier m word.AllElim ∷ ls) b rest (λ y h. (ls, (m, refl), subst (IsTerm t ls) (e ∙ ap (λ z. Numeral n ∷ z) h) is)) tail
form-node m word.ImpIntro ls rest (a, (t, is), (b, (n, e), tail)) =
    ended (node.ImpIntro t n) (Identifier m word.ImpIntro ∷ ls) b rest (λ y h. (ls, (m, refl), subst (IsTerm t ls) (e ∙ ap (λ z. Numeral n ∷ z) h) is)) tail
form-node m word.ImpElim ls rest (a, (i, e), (b, (j, f), tail)) =
    ended (node.ImpElim i j) (Identifier m word.ImpElim ∷ ls) b rest (λ y h. (m, ap (λ z. Identifier m word.ImpElim ∷ z) (e ∙ ap (λ z. Numeral i ∷ z) (f ∙ ap (λ z. Numeral j ∷ z) h)))) tail
form-node m word.Beta ls rest (a, (t, is), tail) = ended (node.Beta t) (Identifier m word.Beta ∷ ls) a rest (λ y h. (ls, (m, refl), subst (IsTerm t ls) h is)) tail
form-node m word.Refl ls rest (a, (t, is), tail) = ended (node.Refl t) (Identifier m word.Refl ∷ ls) a rest (λ y h. (ls, (m, refl), subst (IsTerm t ls) h is)) tail
form-node m word.Subst ls rest (a, (p, first), (b, (x, second), (c, (y, third), tail))) =
    ended (node.Subst p x y) (Identifier m word.Subst ∷ ls) c rest (λ z h. (ls, a, b, (m, refl), first, second, subst (IsTerm y b) h third)) tail
form-node m word.Ext ls rest (a, (f, first), (b, (g, second), tail)) =
    ended (node.Ext f g) (Identifier m word.Ext ∷ ls) b rest (λ z h. (ls, a, (m, refl), first, subst (IsTerm g a) h second)) tail
form-node m word.Iff ls rest (a, (f, first), (b, (g, second), tail)) =
    ended (node.Iff f g) (Identifier m word.Iff ∷ ls) b rest (λ z h. (ls, a, (m, refl), first, subst (IsTerm g a) h second)) tail
form-node m _ ls rest f = absurd f

form-lines : (l : Lexeme) (ls rest : List Lexeme) → OpenForms (lines_on l) ls rest → Form symbol.Lines (l ∷ ls) rest
form-lines (Identifier m w) ls rest f = form-node m w ls rest f
form-lines (Marked mark.End) ls rest (a, e, f) = λ nil. ([], ap (marked mark.End) (e ∙ ap (marked mark.SourceEnd) (f ∙ nil)))
form-lines _ ls rest f = absurd f

form-items : (l : Lexeme) (ls rest : List Lexeme) → OpenForms (items_on l) ls rest → Form symbol.Items (l ∷ ls) rest
form-items (Marked mark.Typedecl) ls rest (a, (n, w, e), (b, (k, f), (c, g, (d, more, h)))) = λ nil.
    let x = more (h ∙ nil) in
    (item.TypeDecl (typ_name n w) k ∷ x.0, x.1, (c, (n, w, refl, ap (marked mark.Typedecl) (e ∙ ap (λ z. Identifier n w ∷ z) (f ∙ ap (λ z. Numeral k ∷ z) g))), x.2))
form-items (Marked mark.Consts) ls rest (a, (n, w, e), (b, f, (c, (T, typ), (d, g, (y, more, h))))) = λ nil.
    let x = more (h ∙ nil) in
    (item.Const (constant_name n w) T ∷ x.0, x.1, (d, (n, w, b, refl, ap (marked mark.Consts) (e ∙ ap (λ z. Identifier n w ∷ z) f), subst (IsTyp T b) g typ), x.2))
form-items (Marked mark.Axiomatization) ls rest (a, (n, w, e), (b, f, (c, (t, is), (d, g, (y, more, h))))) = λ nil.
    let x = more (h ∙ nil) in
    (item.Axiom n t ∷ x.0, x.1, (d, (w, b, ap (marked mark.Axiomatization) (e ∙ ap (λ z. Identifier n w ∷ z) f), subst (IsTerm t b) g is), x.2))
form-items l ls rest f = λ nil. let x = form-lines l ls rest f nil in ([], x.0, x.1)

form-record : (l : Lexeme) (ls rest : List Lexeme) → OpenForms (opened symbol.Record l) ls rest → Form symbol.Record (l ∷ ls) rest
form-record l ls rest f = λ nil. tell nil (is_mark mark.Begin l) refl f
  where
    begun : rest ≡ [] → is_mark mark.Begin l ≡ true → Forms (symbol.Items ∷ []) ls rest → (is : List Item) × (lines : List Node) × IsRecord is lines (l ∷ ls)
    begun nil h (mid, more, e) = let x = more (e ∙ nil) in (x.0, x.1, (ls, ap (λ z. z ∷ ls) (mark-is mark.Begin l h), x.2))

    tell : rest ≡ [] → (b : Bool) → is_mark mark.Begin l ≡ b → OpenForms (opened symbol.Record l) ls rest → (is : List Item) × (lines : List Node) × IsRecord is lines (l ∷ ls)
    tell nil true h f = let g : Forms (symbol.Items ∷ []) ls rest = rw h at f in begun nil h g
    tell nil false h f = let bad : ⊥ = rw h at f in absurd bad

form-opened : (x : Symbol) (l : Lexeme) (ls rest : List Lexeme) → OpenForms (opened x l) ls rest → Form x (l ∷ ls) rest
form-opened (symbol.Just m) l ls rest f = form-just m l ls rest f
form-opened symbol.Identifier l ls rest f = form-identifier l ls rest f
form-opened symbol.Numeral l ls rest f = form-numeral l ls rest f
form-opened symbol.Typ l ls rest f = form-typ l ls rest f
form-opened symbol.Arguments l ls rest f = form-arguments l ls rest f
form-opened symbol.MoreArguments l ls rest f = form-more l ls rest f
form-opened symbol.Term l ls rest f = form-term l ls rest f
form-opened symbol.InParentheses l ls rest f = form-inside l ls rest f
form-opened symbol.Variable l ls rest f = form-variable l ls rest f
form-opened symbol.VariableName l ls rest f = form-variable_name l ls rest f
form-opened symbol.SchematicName l ls rest f = form-schematic_name l ls rest f
form-opened symbol.TypBinds l ls rest f = form-typ_binds l ls rest f
form-opened symbol.TermBinds l ls rest f = form-term_binds l ls rest f
form-opened symbol.Lines l ls rest f = form-lines l ls rest f
form-opened symbol.Items l ls rest f = form-items l ls rest f
form-opened symbol.Record l ls rest f = form-record l ls rest f

form-passed : (x : Symbol) (l : Lexeme) (ls : List Lexeme) → passes x l ≡ true → Form x ls ls
form-passed symbol.Arguments l ls e = (none, refl)
form-passed (symbol.Just m) l ls e = absurd (cc)
form-passed symbol.Identifier l ls e = absurd (cc)
form-passed symbol.Numeral l ls e = absurd (cc)
form-passed symbol.Typ l ls e = absurd (cc)
form-passed symbol.MoreArguments l ls e = absurd (cc)
form-passed symbol.Term l ls e = absurd (cc)
form-passed symbol.InParentheses l ls e = absurd (cc)
form-passed symbol.Variable l ls e = absurd (cc)
form-passed symbol.VariableName l ls e = absurd (cc)
form-passed symbol.SchematicName l ls e = absurd (cc)
form-passed symbol.TypBinds l ls e = absurd (cc)
form-passed symbol.TermBinds l ls e = absurd (cc)
form-passed symbol.Lines l ls e = absurd (cc)
form-passed symbol.Items l ls e = absurd (cc)
form-passed symbol.Record l ls e = absurd (cc)

-- ---- what is to come before and behind a lexeme
forms-split : (ys xs : List Symbol) (ls rest : List Lexeme) → Forms (ys ++ xs) ls rest → (mid : List Lexeme) × Forms ys ls mid × Forms xs mid rest
forms-split [] xs ls rest f = (ls, refl, f)
forms-split (y ∷ ys) xs ls rest (a, one, more) = let w = forms-split ys xs a rest more in (w.0, (a, one, w.1), w.2)

forms-on : (x : Symbol) (xs new : List Symbol) (l : Lexeme) (ls rest : List Lexeme) (o : Option (List Symbol)) → opened x l ≡ o → option_map (λ ys. ys ++ xs) o ≡ Some new → Forms new ls rest → Forms (x ∷ xs) (l ∷ ls) rest
forms-on x xs new l ls rest None h e f = absurd (cc)
forms-on x xs new l ls rest (Some ys) h e f =
    let same : ys ++ xs ≡ new = cc in
    let w = forms-split ys xs ls rest (subst (λ z. Forms z ls rest) (sym same) f) in
    (w.0, form-opened x l ls w.0 (subst (λ z. OpenForms z ls w.0) (sym h) w.1), w.2)

pub forms-next : (xs new : List Symbol) (l : Lexeme) (ls rest : List Lexeme) → next xs l ≡ Some new → Forms new ls rest → Forms xs (l ∷ ls) rest
forms-next [] new l ls rest e f = absurd (cc)
forms-next (x ∷ xs) new l ls rest e f = tell (passes x l) refl (forms-next xs new l ls rest) e
  where
    tell : (b : Bool) → passes x l ≡ b → (next xs l ≡ Some new → Forms new ls rest → Forms xs (l ∷ ls) rest) → next (x ∷ xs) l ≡ Some new → Forms (x ∷ xs) (l ∷ ls) rest
    tell true h further e = (l ∷ ls, form-passed x l (l ∷ ls) h, further (rw h at e) f)
    tell false h further e = forms-on x xs new l ls rest (opened x l) refl (rw h at e) f

-- ---- an end for each part
abbrev HasEnd : Symbol → Type 0
HasEnd x = (ls : List Lexeme) × ((rest : List Lexeme) → Form x (ls ++ rest) rest)

end-of : (x : Symbol) → HasEnd x
end-of (symbol.Just m) = (Marked m ∷ [], λ rest. refl)
end-of symbol.Identifier = (Identifier 0 word.Other ∷ [], λ rest. (0, word.Other, refl))
end-of symbol.Numeral = (Numeral 0 ∷ [], λ rest. (0, refl))
end-of symbol.Typ = (TypeVariable 0 ∷ [], λ rest. (TFree 0 [], (refl, refl)))
end-of symbol.Arguments = ([], λ rest. (none, refl))
end-of symbol.MoreArguments = (Marked mark.CloseParenthesis ∷ [], λ rest. (none, refl))
end-of symbol.Term = (Bound 0 ∷ [], λ rest. (term.Bound 0, refl))
end-of symbol.InParentheses = (
  Bound 0 ∷ Bound 0 ∷ Marked mark.CloseParenthesis ∷ [],
  λ rest.
      (term.App (term.Bound 0) (term.Bound 0), (Bound 0 ∷ Bound 0 ∷ Marked mark.CloseParenthesis ∷ rest, Bound 0 ∷ Marked mark.CloseParenthesis ∷ rest, refl, refl, refl)),
)
end-of symbol.Variable = (
  Marked mark.OpenBrace ∷ SchematicTerm 0 0 ∷ Marked mark.Colon ∷ TypeVariable 0 ∷ Marked mark.CloseBrace ∷ [],
  λ rest.
      (term.Var 0 0 (TFree 0 []), tt, (TypeVariable 0 ∷ Marked mark.CloseBrace ∷ rest, refl, (refl, refl))),
)
end-of symbol.VariableName = (SchematicTerm 0 0 ∷ [], λ rest. inr (0, 0, refl))
end-of symbol.SchematicName = (SchematicTerm 0 0 ∷ [], λ rest. (0, 0, refl))
end-of symbol.TypBinds = (Marked mark.CloseBracket ∷ [], λ rest. ([], refl))
end-of symbol.TermBinds = (Marked mark.CloseBracket ∷ [], λ rest. ([], refl))
end-of symbol.Lines = (Marked mark.End ∷ Marked mark.SourceEnd ∷ [], λ rest nil. ([], ap (λ z. Marked mark.End ∷ Marked mark.SourceEnd ∷ z) nil))
end-of symbol.Items = (Marked mark.End ∷ Marked mark.SourceEnd ∷ [], λ rest nil. ([], [], ap (λ z. Marked mark.End ∷ Marked mark.SourceEnd ∷ z) nil))
end-of symbol.Record = (
  Marked mark.Begin ∷ Marked mark.End ∷ Marked mark.SourceEnd ∷ [],
  λ rest nil.
      ([], [], (Marked mark.End ∷ Marked mark.SourceEnd ∷ rest, refl, ap (λ z. Marked mark.End ∷ Marked mark.SourceEnd ∷ z) nil)),
)

pub ends-of : (xs : List Symbol) → (ls : List Lexeme) × ((rest : List Lexeme) → Forms xs (ls ++ rest) rest)
ends-of [] = ([], λ rest. refl)
ends-of (x ∷ xs) =
    let first = end-of x in
    let more = ends-of xs in
    (first.0 ++ more.0, λ rest. subst (λ z. Forms (x ∷ xs) z rest) (sym (append_assoc first.0 more.0 rest)) (more.0 ++ rest, first.1 (more.0 ++ rest), more.1 rest))
