-- What the reader has read is the text of a phrase.
use Rattle.std.proofs.Common.{◌≡◌, ℕ, zero, suc, ◌==◌, ◌<◌, ◌≤◌, List, [], ◌∷◌, ◌++◌, length, refl, sym, ◌∙◌, ap, subst, append_assoc, ◌⊎◌, inl, inr, arith, true≢false}
use Rattle.std.proofs.lemmas.List.{append-nil}
use Rattle.std.proofs.lemmas.Bool.{eqb-false}
use Rattle.std.specs.Prelude.{Bool, true, false, Option, Some, None, map, if◌then◌else◌}
use Rattle.std.specs.List.{list_any, AllByRecursion, fold}
use Rattle.pure_grammar.specs.declared.lexeme.Keyword.TheVariants as keyword
use Rattle.pure_grammar.specs.declared.lexeme.Sign.TheVariants as sign
use Rattle.pure_grammar.specs.Theories.TheoryText.{Span, Step, Have, Command, TheoryText}
use Rattle.pure_grammar.specs.Theories.TheoryText as tree
use Rattle.pure_grammar.specs.Theories.Lexeme.{Lexeme, Reserved, Signed, Plain, Dotted, Variable, Numeral, Quoted, Ends, same}
use Rattle.pure_grammar.specs.Theories.Phrase.{Ident, Name, Simple, Full, TypeVariable, QuotedType, NamedType, VariableType, OneClass, NoClass, Classes, BasicPhrase, ByAssumption, ByRule, ByErule, ByDrule, ByUnfold, Alone, Together, ApplyStep, PreferStep, DeferStep, DoneEnd, ByEnd, ProofPhrase, NoneAbove, Above, NoParam, OneParam, Params, DomainsPhrase, NoDomain, Domains, AxiomPhrase, LemmaWritten, TheoremWritten, HavePhrase, CommandPhrase, ClassCommand, TypedeclCommand, AritiesCommand, ConstsCommand, AxiomsCommand, DefinitionCommand, LemmaCommand, NoImport, Imports, VersionPhrase, NoVersion, WrittenVersion, FilePhrase}
use Rattle.pure_grammar.specs.Theories.PhraseText.{each, each_comma, name_text, ident_text, variable_text, type_text, sort_text, basic_text, method_text, step_text, end_text, proof_text, domains_text, item_text, axiom_text, and_axiom_text, have_text, command_text, version_text, file_text, assumption_word, rule_word, erule_word, drule_word, unfold_word}
use Rattle.pure_grammar.specs.Theories.PhraseTree.{all_of, name_of, type_span, sort_of, basic_step, method_steps, step_steps, end_steps, proof_steps, domains_of, item_command, axiom_command, have_of, phrase_commands, commands_of, with_text, mentions, imports_of, version_of, file_tree, IsCommandPhrase}
use Rattle.pure_grammar.proofs.Distinct.{same-is, AreNew, new-distinct}
use Rattle.pure_grammar.proofs.ReaderLemmas.{ended, after, open_lemma}
use Rattle.pure_grammar.specs.Theories.Reader.{Header, State, InBody, AtStart, AtTheoryName, AfterImport, AtLast, Outcome, Through, Stuck, FactMethod, OfRule, OfErule, OfDrule, fact_step, AtStep, AtMethod, AtBasic, AfterBasic, AtFact, AtUnfolded, AfterUnfolded, Place, AtCommand, AtClassName, AfterAbove, AtParams, AfterParam, AtConstructor, AtDomains, AtSort, AfterSort, AfterClass, AtArityClass, AtItem, AtItemType, AfterItemType, AtWhere, AtAxiom, AfterAxiomText, AtDefinition, AtDefinitionType, AfterDefinitionType, OpenLemma, with_have, Goal, OfLemma, OfHave, AtLemma, AtProof, AtHave, InProof, Moves, Refuses, command_begun, leave, leave_with, goes_on, body_state, run}

-- the reader reads all, and the theory is this
abbrev pub Gets : State → List Lexeme → TheoryText → Type 0
Gets s r t = run s r ≡ Through (AtLast t)

abbrev is_done : Outcome → Bool
is_done (Through (AtLast t)) = true
is_done _ = false

pub none : {o : Outcome} {t : TheoryText} → o ≡ Through (AtLast t) → is_done o ≡ false → ⊥
none g not = true≢false (sym (ap is_done g) ∙ not)

-- a phrase was read, and the reader goes on behind it
pub record One {A : Type 0} (text : A → List Lexeme → List Lexeme) (s : A → State) (r : List Lexeme) (t : TheoryText) : Type 0 where
  pub item : A
  pub behind : List Lexeme
  pub is : r ≡ text item behind
  pub gets : Gets (s item) behind t
  pub less : length behind < length r

-- ---- lists of phrases
record Each {A B : Type 0} (text : A → List Lexeme → List Lexeme) (more : B → A → B) (out : B → List Lexeme → Type 0) (before : B) (r : List Lexeme) : Type 0 where
  items : List A
  behind : List Lexeme
  is : r ≡ each text items behind
  ends : out (fold more before items) behind
  shorter : length behind ≤ length r

one_more : {A B : Type 0} (text : A → List Lexeme → List Lexeme) (more : B → A → B) (s : B → State) (out : B → List Lexeme → Type 0) (t : TheoryText) (n : ℕ) (before : B) (r : List Lexeme)
    → ((before : B) (r : List Lexeme) → length r < n → Gets (s before) r t → Each text more out before r)
    → length r < suc n → One text (λ x. s (more before x)) r t ⊎ out before r → Each text more out before r
one_more text more s out t n before r again fits (inr e) = record { items = []; behind = r; is = refl; ends = e; shorter = omega arith }
one_more text more s out t n before r again fits (inl o) =
    let m = again (more before o.item) o.behind (omega (arith, o.less, fits)) o.gets in
    record { items = o.item ∷ m.items; behind = m.behind; is = o.is ∙ ap (text o.item) m.is; ends = m.ends; shorter = omega (arith, o.less, m.shorter) }

got-each : {A B : Type 0} (text : A → List Lexeme → List Lexeme) (more : B → A → B) (s : B → State) (out : B → List Lexeme → Type 0) (t : TheoryText)
    → ((before : B) (r : List Lexeme) → Gets (s before) r t → One text (λ x. s (more before x)) r t ⊎ out before r)
    → (n : ℕ) (before : B) (r : List Lexeme) → length r < n → Gets (s before) r t → Each text more out before r
got-each text more s out t one zero before r fits g = absurd (omega (arith, fits))
got-each text more s out t one (suc n) before r fits g = one_more text more s out t n before r (got-each text more s out t one n) fits (one before r g)

fold-map : {A B : Type 0} (given : A → B) (before : List B) (xs : List A) → fold (λ z x. z ++ given x ∷ []) before xs ≡ before ++ map given xs
fold-map given before [] = sym (append-nil before)
fold-map given before (x ∷ xs) = fold-map given (before ++ given x ∷ []) xs ∙ append_assoc before (given x ∷ []) (map given xs)

fold-all : {A B : Type 0} (given : A → List B) (before : List B) (xs : List A) → fold (λ z x. z ++ given x) before xs ≡ before ++ all_of given xs
fold-all given before [] = sym (append-nil before)
fold-all given before (x ∷ xs) = fold-all given (before ++ given x) xs ∙ append_assoc before (given x) (all_of given xs)

length-name_text : (n : Name) (r : List Lexeme) → length (name_text n r) ≡ suc (length r)
length-name_text (Simple text at) r = refl
length-name_text (Full text at) r = refl

-- ---- commands
-- a command was read, and the reader goes on behind it
record GotCommand (h : Header) (cs : List Command) (r : List Lexeme) (t : TheoryText) : Type 0 where
  command : CommandPhrase
  allowed : IsCommandPhrase h.version command
  behind : List Lexeme
  is : r ≡ command_text command behind
  gets : Gets (InBody h (cs ++ phrase_commands command) AtCommand) behind t
  less : length behind < length r

leave-gets : (h : Header) (cs : List Command) (c : Command) (o : Option Place) (s u : State) (l : Lexeme) (r : List Lexeme) (t : TheoryText)
    → goes_on (body_state h cs (leave_with c o)) (Stuck s l r) (λ v. run v r) ≡ Through (AtLast t)
    → goes_on (body_state h (cs ++ c ∷ []) (leave o)) (Stuck u l r) (λ v. run v r) ≡ Through (AtLast t)
leave-gets h cs c None s u l r t g = absurd (none g refl)
leave-gets h cs c (Some p) s u l r t g = g

stay-gets : (h : Header) (cs : List Command) (o : Option Place) (s u : State) (l : Lexeme) (r : List Lexeme) (t : TheoryText)
    → goes_on (body_state h cs (leave o)) (Stuck s l r) (λ v. run v r) ≡ Through (AtLast t)
    → goes_on (body_state h cs (leave o)) (Stuck u l r) (λ v. run v r) ≡ Through (AtLast t)
stay-gets h cs None s u l r t g = absurd (none g refl)
stay-gets h cs (Some p) s u l r t g = g

-- ---- classes
OutAbove : Header → List Command → List ℕ → TheoryText → List (List ℕ) → List Lexeme → Type 0
OutAbove h cs x t above r = Gets (InBody h (cs ++ tree.Class x above ∷ []) AtCommand) r t

one-above : (h : Header) (cs : List Command) (x : List ℕ) (t : TheoryText) (above : List (List ℕ)) (r : List Lexeme) → Gets (InBody h cs (AfterAbove x above)) r t
    → One name_text (λ n. InBody h cs (AfterAbove x (above ++ name_of n ∷ []))) r t ⊎ OutAbove h cs x t above r
unfolding OutAbove
one-above h cs x t above [] g = absurd (none g refl)
one-above h cs x t above (Plain text at ∷ r) g = inl (record { item = Simple text at; behind = r; is = refl; gets = g; less = omega arith })
one-above h cs x t above (Dotted text at ∷ r) g = inl (record { item = Full text at; behind = r; is = refl; gets = g; less = omega arith })
one-above h cs x t above (Reserved w ∷ r) g = inr (leave-gets h cs (tree.Class x above) (command_begun (Reserved w)) _ _ (Reserved w) r t g)
one-above h cs x t above (l ∷ r) g = absurd (none g refl)

-- the classes above, from the first one on
got-above : (h : Header) (cs : List Command) (x : List ℕ) (at : Span) (t : TheoryText) (n : Name) (r : List Lexeme) → Gets (InBody h cs (AfterAbove x (name_of n ∷ []))) r t
    → GotCommand h cs (Reserved keyword.Class ∷ Plain x at ∷ Signed sign.Less ∷ name_text n r) t
unfolding OutAbove
got-above h cs x at t n r g =
    let m = got-each name_text (λ z y. z ++ name_of y ∷ []) (λ z. InBody h cs (AfterAbove x z)) (OutAbove h cs x t) t (one-above h cs x t) (suc (length r)) (name_of n ∷ []) r (omega arith) g in
    record {
      command = ClassCommand (record { text = x; at = at }) (Above n m.items);
      allowed = tt;
      behind = m.behind;
      is = ap (λ z. Reserved keyword.Class ∷ Plain x at ∷ Signed sign.Less ∷ name_text n z) m.is;
      gets = subst (λ z. Gets (InBody h (cs ++ tree.Class x z ∷ []) AtCommand) m.behind t) (fold-map name_of (name_of n ∷ []) m.items) m.ends;
      less = omega (arith, m.shorter, length-name_text n r);
    }

got-class : (h : Header) (cs : List Command) (t : TheoryText) (r : List Lexeme) → Gets (InBody h cs AtClassName) r t → GotCommand h cs (Reserved keyword.Class ∷ r) t
got-class h cs t [] g = absurd (none g refl)
got-class h cs t (Plain x at ∷ []) g = absurd (none g refl)
got-class h cs t (Plain x at ∷ Signed sign.Less ∷ []) g = absurd (none g refl)
got-class h cs t (Plain x at ∷ Signed sign.Less ∷ Plain y at' ∷ r) g = got-above h cs x at t (Simple y at') r g
got-class h cs t (Plain x at ∷ Signed sign.Less ∷ Dotted y at' ∷ r) g = got-above h cs x at t (Full y at') r g
got-class h cs t (Plain x at ∷ Signed sign.Less ∷ l ∷ r) g = absurd (none g refl)
got-class h cs t (Plain x at ∷ Reserved w ∷ r) g =
    record {
      command = ClassCommand (record { text = x; at = at }) NoneAbove;
      allowed = tt;
      behind = Reserved w ∷ r;
      is = refl;
      gets = leave-gets h cs (tree.Class x []) (command_begun (Reserved w)) _ _ (Reserved w) r t g;
      less = omega arith;
    }
got-class h cs t (Plain x at ∷ l ∷ r) g = absurd (none g refl)
got-class h cs t (l ∷ r) g = absurd (none g refl)

-- ---- sorts
-- this token stands at the front, and the reader goes on behind it
record Closed (l : Lexeme) (s : State) (r : List Lexeme) (t : TheoryText) : Type 0 where
  behind : List Lexeme
  is : r ≡ l ∷ behind
  gets : Gets s behind t

one-class : (h : Header) (cs : List Command) (k : List ℕ) (doms : List (List (List ℕ))) (t : TheoryText) (sort : List (List ℕ)) (r : List Lexeme) → Gets (InBody h cs (AfterClass k doms sort)) r t
    → One (λ n r. Signed sign.Comma ∷ name_text n r) (λ n. InBody h cs (AfterClass k doms (sort ++ name_of n ∷ []))) r t ⊎ Closed (Signed sign.CloseBrace) (InBody h cs (AfterSort k (doms ++ sort ∷ []))) r t
one-class h cs k doms t sort [] g = absurd (none g refl)
one-class h cs k doms t sort (Signed sign.Comma ∷ []) g = absurd (none g refl)
one-class h cs k doms t sort (Signed sign.Comma ∷ Plain text at ∷ r) g = inl (record { item = Simple text at; behind = r; is = refl; gets = g; less = omega arith })
one-class h cs k doms t sort (Signed sign.Comma ∷ Dotted text at ∷ r) g = inl (record { item = Full text at; behind = r; is = refl; gets = g; less = omega arith })
one-class h cs k doms t sort (Signed sign.Comma ∷ l ∷ r) g = absurd (none g refl)
one-class h cs k doms t sort (Signed sign.CloseBrace ∷ r) g = inr (record { behind = r; is = refl; gets = g })
one-class h cs k doms t sort (l ∷ r) g = absurd (none g refl)

got-classes : (h : Header) (cs : List Command) (k : List ℕ) (doms : List (List (List ℕ))) (t : TheoryText) (n : Name) (r : List Lexeme) → Gets (InBody h cs (AfterClass k doms (name_of n ∷ []))) r t
    → One sort_text (λ s. InBody h cs (AfterSort k (doms ++ sort_of s ∷ []))) (Signed sign.OpenBrace ∷ name_text n r) t
got-classes h cs k doms t n r g =
    let m = got-each (λ n r. Signed sign.Comma ∷ name_text n r) (λ z y. z ++ name_of y ∷ []) (λ z. InBody h cs (AfterClass k doms z)) (λ z r. Closed (Signed sign.CloseBrace) (InBody h cs (AfterSort k (doms ++ z ∷ []))) r t) t (one-class h cs k doms t) (suc (length r)) (name_of n ∷ []) r (omega arith) g in
    let l : length m.behind ≡ suc (length m.ends.behind) = ap length m.ends.is in
    record {
      item = Classes n m.items;
      behind = m.ends.behind;
      is = ap (λ z. Signed sign.OpenBrace ∷ name_text n z) (m.is ∙ ap (each_comma name_text m.items) m.ends.is);
      gets = subst (λ z. Gets (InBody h cs (AfterSort k (doms ++ z ∷ []))) m.ends.behind t) (fold-map name_of (name_of n ∷ []) m.items) m.ends.gets;
      less = omega (arith, m.shorter, l, length-name_text n r);
    }

got-sort : (h : Header) (cs : List Command) (k : List ℕ) (t : TheoryText) (doms : List (List (List ℕ))) (r : List Lexeme) → Gets (InBody h cs (AtSort k doms)) r t
    → One sort_text (λ s. InBody h cs (AfterSort k (doms ++ sort_of s ∷ []))) r t
got-sort h cs k t doms [] g = absurd (none g refl)
got-sort h cs k t doms (Plain text at ∷ r) g = record { item = OneClass (Simple text at); behind = r; is = refl; gets = g; less = omega arith }
got-sort h cs k t doms (Dotted text at ∷ r) g = record { item = OneClass (Full text at); behind = r; is = refl; gets = g; less = omega arith }
got-sort h cs k t doms (Signed sign.OpenBrace ∷ []) g = absurd (none g refl)
got-sort h cs k t doms (Signed sign.OpenBrace ∷ Signed sign.CloseBrace ∷ r) g = record { item = NoClass; behind = r; is = refl; gets = g; less = omega arith }
got-sort h cs k t doms (Signed sign.OpenBrace ∷ Plain text at ∷ r) g = got-classes h cs k doms t (Simple text at) r g
got-sort h cs k t doms (Signed sign.OpenBrace ∷ Dotted text at ∷ r) g = got-classes h cs k doms t (Full text at) r g
got-sort h cs k t doms (Signed sign.OpenBrace ∷ l ∷ r) g = absurd (none g refl)
got-sort h cs k t doms (l ∷ r) g = absurd (none g refl)

-- ---- arities
one-sort : (h : Header) (cs : List Command) (k : List ℕ) (t : TheoryText) (doms : List (List (List ℕ))) (r : List Lexeme) → Gets (InBody h cs (AfterSort k doms)) r t
    → One (λ s r. Signed sign.Comma ∷ sort_text s r) (λ s. InBody h cs (AfterSort k (doms ++ sort_of s ∷ []))) r t ⊎ Closed (Signed sign.CloseParenthesis) (InBody h cs (AtArityClass k doms)) r t
one-sort h cs k t doms [] g = absurd (none g refl)
one-sort h cs k t doms (Signed sign.Comma ∷ r) g =
    let o = got-sort h cs k t doms r g in
    inl (record { item = o.item; behind = o.behind; is = ap (λ z. Signed sign.Comma ∷ z) o.is; gets = o.gets; less = omega (arith, o.less) })
one-sort h cs k t doms (Signed sign.CloseParenthesis ∷ r) g = inr (record { behind = r; is = refl; gets = g })
one-sort h cs k t doms (l ∷ r) g = absurd (none g refl)

got-arity_class : (h : Header) (cs : List Command) (k : List ℕ) (doms : List (List (List ℕ))) (t : TheoryText) (r : List Lexeme) → Gets (InBody h cs (AtArityClass k doms)) r t
    → One name_text (λ n. InBody h (cs ++ tree.Arity k doms (name_of n) ∷ []) AtCommand) r t
got-arity_class h cs k doms t [] g = absurd (none g refl)
got-arity_class h cs k doms t (Plain text at ∷ r) g = record { item = Simple text at; behind = r; is = refl; gets = g; less = omega arith }
got-arity_class h cs k doms t (Dotted text at ∷ r) g = record { item = Full text at; behind = r; is = refl; gets = g; less = omega arith }
got-arity_class h cs k doms t (l ∷ r) g = absurd (none g refl)

-- the domains and the class of an arity
record ArityPhrase : Type 0 where
  domains : DomainsPhrase
  class : Name

abbrev arity_text : ArityPhrase → List Lexeme → List Lexeme
arity_text a r = domains_text a.domains (name_text a.class r)

got-domains : (h : Header) (cs : List Command) (k : List ℕ) (t : TheoryText) (r : List Lexeme) → Gets (InBody h cs (AtDomains k)) r t
    → One arity_text (λ a. InBody h (cs ++ tree.Arity k (domains_of a.domains) (name_of a.class) ∷ []) AtCommand) r t
got-domains h cs k t [] g = absurd (none g refl)
got-domains h cs k t (Plain text at ∷ r) g = record { item = record { domains = NoDomain; class = Simple text at }; behind = r; is = refl; gets = g; less = omega arith }
got-domains h cs k t (Dotted text at ∷ r) g = record { item = record { domains = NoDomain; class = Full text at }; behind = r; is = refl; gets = g; less = omega arith }
got-domains h cs k t (Signed sign.OpenParenthesis ∷ r) g =
    let o = got-sort h cs k t [] r g in
    let m = got-each (λ s r. Signed sign.Comma ∷ sort_text s r) (λ z y. z ++ sort_of y ∷ []) (λ z. InBody h cs (AfterSort k z)) (λ z r. Closed (Signed sign.CloseParenthesis) (InBody h cs (AtArityClass k z)) r t) t (one-sort h cs k t) (suc (length o.behind)) (sort_of o.item ∷ []) o.behind (omega arith) o.gets in
    let c = got-arity_class h cs k (fold (λ z y. z ++ sort_of y ∷ []) (sort_of o.item ∷ []) m.items) t m.ends.behind m.ends.gets in
    let l : length m.behind ≡ suc (length m.ends.behind) = ap length m.ends.is in
    record {
      item = record { domains = Domains o.item m.items; class = c.item };
      behind = c.behind;
      is = ap (λ z. Signed sign.OpenParenthesis ∷ z) (o.is ∙ ap (sort_text o.item) (m.is ∙ ap (each_comma sort_text m.items) (m.ends.is ∙ ap (λ z. Signed sign.CloseParenthesis ∷ z) c.is)));
      gets = subst (λ z. Gets (InBody h (cs ++ tree.Arity k z (name_of c.item) ∷ []) AtCommand) c.behind t) (fold-map sort_of (sort_of o.item ∷ []) m.items) c.gets;
      less = omega (arith, o.less, m.shorter, l, c.less);
    }
got-domains h cs k t (l ∷ r) g = absurd (none g refl)

got-arity_of : (h : Header) (cs : List Command) (k : Name) (t : TheoryText) (r : List Lexeme) → Gets (InBody h cs (AtDomains (name_of k))) r t
    → GotCommand h cs (Reserved keyword.Arities ∷ name_text k (Signed sign.DoubleColon ∷ r)) t
got-arity_of h cs k t r g =
    let o = got-domains h cs (name_of k) t r g in
    record {
      command = AritiesCommand k o.item.domains o.item.class;
      allowed = tt;
      behind = o.behind;
      is = ap (λ z. Reserved keyword.Arities ∷ name_text k (Signed sign.DoubleColon ∷ z)) o.is;
      gets = o.gets;
      less = omega (arith, o.less, length-name_text k (Signed sign.DoubleColon ∷ r));
    }

got-arity : (h : Header) (cs : List Command) (t : TheoryText) (r : List Lexeme) → Gets (InBody h cs AtConstructor) r t → GotCommand h cs (Reserved keyword.Arities ∷ r) t
got-arity h cs t [] g = absurd (none g refl)
got-arity h cs t (Plain text at ∷ []) g = absurd (none g refl)
got-arity h cs t (Plain text at ∷ Signed sign.DoubleColon ∷ r) g = got-arity_of h cs (Simple text at) t r g
got-arity h cs t (Plain text at ∷ l ∷ r) g = absurd (none g refl)
got-arity h cs t (Dotted text at ∷ []) g = absurd (none g refl)
got-arity h cs t (Dotted text at ∷ Signed sign.DoubleColon ∷ r) g = got-arity_of h cs (Full text at) t r g
got-arity h cs t (Dotted text at ∷ l ∷ r) g = absurd (none g refl)
got-arity h cs t (l ∷ r) g = absurd (none g refl)

-- ---- declared types
record GotParams (h : Header) (cs : List Command) (known : List (List ℕ)) (r : List Lexeme) (t : TheoryText) : Type 0 where
  more : List TypeVariable
  name : Ident
  behind : List Lexeme
  is : r ≡ each_comma variable_text more (Signed sign.CloseParenthesis ∷ ident_text name behind)
  new : AreNew known (map (λ (y : TypeVariable). y.text) more)
  gets : Gets (InBody h (cs ++ tree.TypeDecl name.text (length (known ++ map (λ (y : TypeVariable). y.text) more)) ∷ []) AtCommand) behind t
  less : length behind < length r

new-gets : (h : Header) (cs : List Command) (known : List (List ℕ)) (text : List ℕ) (s : State) (l : Lexeme) (r : List Lexeme) (t : TheoryText) (b : Bool) → list_any (same text) known ≡ b
    → goes_on (body_state h cs (if b then Refuses else Moves (AfterParam (known ++ text ∷ [])))) (Stuck s l r) (λ v. run v r) ≡ Through (AtLast t)
    → (list_any (same text) known ≡ false) × Gets (InBody h cs (AfterParam (known ++ text ∷ []))) r t
new-gets h cs known text s l r t true e g = absurd (none g refl)
new-gets h cs known text s l r t false e g = (e, g)

got-params : (h : Header) (cs : List Command) (t : TheoryText) (known : List (List ℕ)) (r : List Lexeme) → Gets (InBody h cs (AfterParam known)) r t → GotParams h cs known r t
got-params h cs t known [] g = absurd (none g refl)
got-params h cs t known (Signed sign.Comma ∷ []) g = absurd (none g refl)
got-params h cs t known (Signed sign.Comma ∷ Variable text at ∷ r) g =
    let n = new-gets h cs known text _ _ r t (list_any (same text) known) refl g in
    let m = got-params h cs t (known ++ text ∷ []) r n.1 in
    record {
      more = (record { text = text; at = at }) ∷ m.more;
      name = m.name;
      behind = m.behind;
      is = ap (λ z. Signed sign.Comma ∷ Variable text at ∷ z) m.is;
      new = (n.0, m.new);
      gets = subst (λ z. Gets (InBody h (cs ++ tree.TypeDecl m.name.text (length z) ∷ []) AtCommand) m.behind t) (append_assoc known (text ∷ []) (map (λ (y : TypeVariable). y.text) m.more)) m.gets;
      less = omega (arith, m.less);
    }
got-params h cs t known (Signed sign.Comma ∷ l ∷ r) g = absurd (none g refl)
got-params h cs t known (Signed sign.CloseParenthesis ∷ []) g = absurd (none g refl)
got-params h cs t known (Signed sign.CloseParenthesis ∷ Plain x at ∷ r) g =
    record {
      more = [];
      name = record { text = x; at = at };
      behind = r;
      is = refl;
      new = tt;
      gets = subst (λ z. Gets (InBody h (cs ++ tree.TypeDecl x (length z) ∷ []) AtCommand) r t) (sym (append-nil known)) g;
      less = omega arith;
    }
got-params h cs t known (Signed sign.CloseParenthesis ∷ l ∷ r) g = absurd (none g refl)
got-params h cs t known (l ∷ r) g = absurd (none g refl)

got-typedecl : (h : Header) (cs : List Command) (t : TheoryText) (r : List Lexeme) → Gets (InBody h cs AtParams) r t → GotCommand h cs (Reserved keyword.Typedecl ∷ r) t
got-typedecl h cs t [] g = absurd (none g refl)
got-typedecl h cs t (Plain x at ∷ r) g = record { command = TypedeclCommand NoParam (record { text = x; at = at }); allowed = tt; behind = r; is = refl; gets = g; less = omega arith }
got-typedecl h cs t (Variable y at ∷ []) g = absurd (none g refl)
got-typedecl h cs t (Variable y at ∷ Plain x at' ∷ r) g =
    record { command = TypedeclCommand (OneParam (record { text = y; at = at })) (record { text = x; at = at' }); allowed = (λ m. m, tt); behind = r; is = refl; gets = g; less = omega arith }
got-typedecl h cs t (Variable y at ∷ l ∷ r) g = absurd (none g refl)
got-typedecl h cs t (Signed sign.OpenParenthesis ∷ []) g = absurd (none g refl)
got-typedecl h cs t (Signed sign.OpenParenthesis ∷ Variable y at ∷ r) g =
    let m = got-params h cs t (y ∷ []) r g in
    record {
      command = TypedeclCommand (Params (record { text = y; at = at }) m.more) m.name;
      allowed = new-distinct (y ∷ map (λ (y : TypeVariable). y.text) m.more) (refl, m.new);
      behind = m.behind;
      is = ap (λ z. Reserved keyword.Typedecl ∷ Signed sign.OpenParenthesis ∷ Variable y at ∷ z) m.is;
      gets = m.gets;
      less = omega (arith, m.less);
    }
got-typedecl h cs t (Signed sign.OpenParenthesis ∷ l ∷ r) g = absurd (none g refl)
got-typedecl h cs t (l ∷ r) g = absurd (none g refl)

-- ---- constants
got-type : (h : Header) (cs : List Command) (x : List ℕ) (t : TheoryText) (r : List Lexeme) → Gets (InBody h cs (AtItemType x)) r t
    → One type_text (λ y. InBody h (cs ++ tree.Const x (type_span y) ∷ []) AfterItemType) r t
got-type h cs x t [] g = absurd (none g refl)
got-type h cs x t (Quoted at ∷ r) g = record { item = QuotedType at; behind = r; is = refl; gets = g; less = omega arith }
got-type h cs x t (Plain text at ∷ r) g = record { item = NamedType (Simple text at); behind = r; is = refl; gets = g; less = omega arith }
got-type h cs x t (Dotted text at ∷ r) g = record { item = NamedType (Full text at); behind = r; is = refl; gets = g; less = omega arith }
got-type h cs x t (Variable text at ∷ r) g = record { item = VariableType (record { text = text; at = at }); behind = r; is = refl; gets = g; less = omega arith }
got-type h cs x t (l ∷ r) g = absurd (none g refl)

got-item : (h : Header) (cs : List Command) (x : List ℕ) (at : Span) (t : TheoryText) (r : List Lexeme) → Gets (InBody h cs (AtItemType x)) r t
    → One item_text (λ i. InBody h (cs ++ item_command i ∷ []) AfterItemType) (Plain x at ∷ Signed sign.DoubleColon ∷ r) t
got-item h cs x at t r g =
    let o = got-type h cs x t r g in
    record { item = record { name = record { text = x; at = at }; typ = o.item }; behind = o.behind; is = ap (λ z. Plain x at ∷ Signed sign.DoubleColon ∷ z) o.is; gets = o.gets; less = omega (arith, o.less) }

one-item : (h : Header) (t : TheoryText) (cs : List Command) (r : List Lexeme) → Gets (InBody h cs AfterItemType) r t
    → One item_text (λ i. InBody h (cs ++ item_command i ∷ []) AfterItemType) r t ⊎ Gets (InBody h cs AtCommand) r t
one-item h t cs [] g = absurd (none g refl)
one-item h t cs (Plain x at ∷ []) g = absurd (none g refl)
one-item h t cs (Plain x at ∷ Signed sign.DoubleColon ∷ r) g = inl (got-item h cs x at t r g)
one-item h t cs (Plain x at ∷ l ∷ r) g = absurd (none g refl)
one-item h t cs (Reserved w ∷ r) g = inr (stay-gets h cs (command_begun (Reserved w)) _ _ (Reserved w) r t g)
one-item h t cs (l ∷ r) g = absurd (none g refl)

got-consts : (h : Header) (cs : List Command) (t : TheoryText) (r : List Lexeme) → Gets (InBody h cs AtItem) r t → GotCommand h cs (Reserved keyword.Consts ∷ r) t
got-consts h cs t [] g = absurd (none g refl)
got-consts h cs t (Plain x at ∷ []) g = absurd (none g refl)
got-consts h cs t (Plain x at ∷ Signed sign.DoubleColon ∷ r) g =
    let o = got-item h cs x at t r g in
    let m = got-each item_text (λ z y. z ++ item_command y ∷ []) (λ z. InBody h z AfterItemType) (λ z r. Gets (InBody h z AtCommand) r t) t (one-item h t) (suc (length o.behind)) (cs ++ item_command o.item ∷ []) o.behind (omega arith) o.gets in
    record {
      command = ConstsCommand o.item m.items;
      allowed = tt;
      behind = m.behind;
      is = ap (λ z. Reserved keyword.Consts ∷ z) (o.is ∙ ap (item_text o.item) m.is);
      gets = subst (λ z. Gets (InBody h z AtCommand) m.behind t) (fold-map item_command (cs ++ item_command o.item ∷ []) m.items ∙ append_assoc cs (item_command o.item ∷ []) (map item_command m.items)) m.ends;
      less = omega (arith, o.less, m.shorter);
    }
got-consts h cs t (Plain x at ∷ l ∷ r) g = absurd (none g refl)
got-consts h cs t (l ∷ r) g = absurd (none g refl)

-- ---- axioms
got-axiom : (h : Header) (cs : List Command) (t : TheoryText) (r : List Lexeme) → Gets (InBody h cs AtAxiom) r t
    → One axiom_text (λ a. InBody h (cs ++ axiom_command a ∷ []) AfterAxiomText) r t
got-axiom h cs t [] g = absurd (none g refl)
got-axiom h cs t (Plain x at ∷ []) g = absurd (none g refl)
got-axiom h cs t (Plain x at ∷ Signed sign.Colon ∷ []) g = absurd (none g refl)
got-axiom h cs t (Plain x at ∷ Signed sign.Colon ∷ Quoted p ∷ r) g = record { item = record { name = record { text = x; at = at }; prop = p }; behind = r; is = refl; gets = g; less = omega arith }
got-axiom h cs t (Plain x at ∷ Signed sign.Colon ∷ l ∷ r) g = absurd (none g refl)
got-axiom h cs t (Plain x at ∷ l ∷ r) g = absurd (none g refl)
got-axiom h cs t (l ∷ r) g = absurd (none g refl)

one-axiom : (h : Header) (t : TheoryText) (cs : List Command) (r : List Lexeme) → Gets (InBody h cs AfterAxiomText) r t
    → One and_axiom_text (λ a. InBody h (cs ++ axiom_command a ∷ []) AfterAxiomText) r t ⊎ Gets (InBody h cs AtCommand) r t
one-axiom h t cs [] g = absurd (none g refl)
one-axiom h t cs (Reserved keyword.And ∷ r) g =
    let o = got-axiom h cs t r g in
    inl (record { item = o.item; behind = o.behind; is = ap (λ z. Reserved keyword.And ∷ z) o.is; gets = o.gets; less = omega (arith, o.less) })
one-axiom h t cs (Reserved w ∷ r) g = inr (stay-gets h cs (command_begun (Reserved w)) (InBody h cs AfterAxiomText) (InBody h cs AtCommand) (Reserved w) r t g)
one-axiom h t cs (l ∷ r) g = absurd (none g refl)

got-axioms : (h : Header) (cs : List Command) (t : TheoryText) (r : List Lexeme) → Gets (InBody h cs AtWhere) r t → GotCommand h cs (Reserved keyword.Axiomatization ∷ r) t
got-axioms h cs t [] g = absurd (none g refl)
got-axioms h cs t (Reserved keyword.Where ∷ r) g =
    let o = got-axiom h cs t r g in
    let m = got-each and_axiom_text (λ z y. z ++ axiom_command y ∷ []) (λ z. InBody h z AfterAxiomText) (λ z r. Gets (InBody h z AtCommand) r t) t (one-axiom h t) (suc (length o.behind)) (cs ++ axiom_command o.item ∷ []) o.behind (omega arith) o.gets in
    record {
      command = AxiomsCommand o.item m.items;
      allowed = tt;
      behind = m.behind;
      is = ap (λ z. Reserved keyword.Axiomatization ∷ Reserved keyword.Where ∷ z) (o.is ∙ ap (axiom_text o.item) m.is);
      gets = subst (λ z. Gets (InBody h z AtCommand) m.behind t) (fold-map axiom_command (cs ++ axiom_command o.item ∷ []) m.items ∙ append_assoc cs (axiom_command o.item ∷ []) (map axiom_command m.items)) m.ends;
      less = omega (arith, o.less, m.shorter);
    }
got-axioms h cs t (l ∷ r) g = absurd (none g refl)

-- ---- definitions
got-definition_type : (h : Header) (cs : List Command) (x : List ℕ) (t : TheoryText) (r : List Lexeme) → Gets (InBody h cs (AtDefinitionType x)) r t
    → One type_text (λ y. InBody h cs (AfterDefinitionType x (type_span y))) r t
got-definition_type h cs x t [] g = absurd (none g refl)
got-definition_type h cs x t (Quoted at ∷ r) g = record { item = QuotedType at; behind = r; is = refl; gets = g; less = omega arith }
got-definition_type h cs x t (Plain text at ∷ r) g = record { item = NamedType (Simple text at); behind = r; is = refl; gets = g; less = omega arith }
got-definition_type h cs x t (Dotted text at ∷ r) g = record { item = NamedType (Full text at); behind = r; is = refl; gets = g; less = omega arith }
got-definition_type h cs x t (Variable text at ∷ r) g = record { item = VariableType (record { text = text; at = at }); behind = r; is = refl; gets = g; less = omega arith }
got-definition_type h cs x t (l ∷ r) g = absurd (none g refl)

got-definition_text : (h : Header) (cs : List Command) (x : List ℕ) (y : Span) (t : TheoryText) (r : List Lexeme) → Gets (InBody h cs (AfterDefinitionType x y)) r t
    → One (λ p r. Reserved keyword.Where ∷ Quoted p ∷ r) (λ p. InBody h (cs ++ tree.Definition x y p ∷ []) AtCommand) r t
got-definition_text h cs x y t [] g = absurd (none g refl)
got-definition_text h cs x y t (Reserved keyword.Where ∷ []) g = absurd (none g refl)
got-definition_text h cs x y t (Reserved keyword.Where ∷ Quoted p ∷ r) g = record { item = p; behind = r; is = refl; gets = g; less = omega arith }
got-definition_text h cs x y t (Reserved keyword.Where ∷ l ∷ r) g = absurd (none g refl)
got-definition_text h cs x y t (l ∷ r) g = absurd (none g refl)

got-definition : (h : Header) (cs : List Command) (t : TheoryText) (r : List Lexeme) → Gets (InBody h cs AtDefinition) r t → GotCommand h cs (Reserved keyword.Definition ∷ r) t
got-definition h cs t [] g = absurd (none g refl)
got-definition h cs t (Plain x at ∷ []) g = absurd (none g refl)
got-definition h cs t (Plain x at ∷ Signed sign.DoubleColon ∷ r) g =
    let o = got-definition_type h cs x t r g in
    let p = got-definition_text h cs x (type_span o.item) t o.behind o.gets in
    record {
      command = DefinitionCommand (record { name = record { text = x; at = at }; typ = o.item }) p.item;
      allowed = tt;
      behind = p.behind;
      is = ap (λ z. Reserved keyword.Definition ∷ Plain x at ∷ Signed sign.DoubleColon ∷ z) (o.is ∙ ap (type_text o.item) p.is);
      gets = p.gets;
      less = omega (arith, o.less, p.less);
    }
got-definition h cs t (Plain x at ∷ l ∷ r) g = absurd (none g refl)
got-definition h cs t (l ∷ r) g = absurd (none g refl)

-- ---- proofs
got-fact : (h : Header) (cs : List Command) (goal : Goal) (script : List Step) (last : Bool) (m : FactMethod) (t : TheoryText) (r : List Lexeme) → Gets (InBody h cs (InProof goal script (AtFact last m))) r t
    → One name_text (λ n. InBody h cs (InProof goal (script ++ fact_step m (name_of n) ∷ []) (AfterBasic last))) r t
got-fact h cs goal script last m t [] g = absurd (none g refl)
got-fact h cs goal script last m t (Plain text at ∷ r) g = record { item = Simple text at; behind = r; is = refl; gets = g; less = omega arith }
got-fact h cs goal script last m t (Dotted text at ∷ r) g = record { item = Full text at; behind = r; is = refl; gets = g; less = omega arith }
got-fact h cs goal script last m t (l ∷ r) g = absurd (none g refl)

one-unfolded : (h : Header) (cs : List Command) (goal : Goal) (script : List Step) (last : Bool) (t : TheoryText) (facts : List (List ℕ)) (r : List Lexeme) → Gets (InBody h cs (InProof goal script (AfterUnfolded last facts))) r t
    → One name_text (λ n. InBody h cs (InProof goal script (AfterUnfolded last (facts ++ name_of n ∷ [])))) r t ⊎ Gets (InBody h cs (InProof goal (script ++ tree.Unfold facts ∷ []) (AfterBasic last))) r t
one-unfolded h cs goal script last t facts [] g = absurd (none g refl)
one-unfolded h cs goal script last t facts (Plain text at ∷ r) g = inl (record { item = Simple text at; behind = r; is = refl; gets = g; less = omega arith })
one-unfolded h cs goal script last t facts (Dotted text at ∷ r) g = inl (record { item = Full text at; behind = r; is = refl; gets = g; less = omega arith })
one-unfolded h cs goal script last t facts (Signed sign.Comma ∷ r) g = inr g
one-unfolded h cs (OfLemma m) script true t facts (Signed sign.CloseParenthesis ∷ r) g = inr g
one-unfolded h cs (OfHave m x p) script true t facts (Signed sign.CloseParenthesis ∷ r) g = inr g
one-unfolded h cs goal script false t facts (Signed sign.CloseParenthesis ∷ r) g = inr g
one-unfolded h cs goal script last t facts (l ∷ r) g = absurd (none g refl)

got-unfold : (h : Header) (cs : List Command) (goal : Goal) (script : List Step) (last : Bool) (at : Span) (t : TheoryText) (n : Name) (r : List Lexeme) → Gets (InBody h cs (InProof goal script (AfterUnfolded last (name_of n ∷ [])))) r t
    → One basic_text (λ b. InBody h cs (InProof goal (script ++ basic_step b ∷ []) (AfterBasic last))) (Plain unfold_word at ∷ name_text n r) t
got-unfold h cs goal script last at t n r g =
    let m = got-each name_text (λ z y. z ++ name_of y ∷ []) (λ z. InBody h cs (InProof goal script (AfterUnfolded last z))) (λ z r. Gets (InBody h cs (InProof goal (script ++ tree.Unfold z ∷ []) (AfterBasic last))) r t) t (one-unfolded h cs goal script last t) (suc (length r)) (name_of n ∷ []) r (omega arith) g in
    record {
      item = ByUnfold at n m.items;
      behind = m.behind;
      is = ap (λ z. Plain unfold_word at ∷ name_text n z) m.is;
      gets = subst (λ z. Gets (InBody h cs (InProof goal (script ++ tree.Unfold z ∷ []) (AfterBasic last))) m.behind t) (fold-map name_of (name_of n ∷ []) m.items) m.ends;
      less = omega (arith, m.shorter, length-name_text n r);
    }

got-unfolded : (h : Header) (cs : List Command) (goal : Goal) (script : List Step) (last : Bool) (at : Span) (t : TheoryText) (r : List Lexeme) → Gets (InBody h cs (InProof goal script (AtUnfolded last))) r t
    → One basic_text (λ b. InBody h cs (InProof goal (script ++ basic_step b ∷ []) (AfterBasic last))) (Plain unfold_word at ∷ r) t
got-unfolded h cs goal script last at t [] g = absurd (none g refl)
got-unfolded h cs goal script last at t (Plain text at' ∷ r) g = got-unfold h cs goal script last at t (Simple text at') r g
got-unfolded h cs goal script last at t (Dotted text at' ∷ r) g = got-unfold h cs goal script last at t (Full text at') r g
got-unfolded h cs goal script last at t (l ∷ r) g = absurd (none g refl)

-- which word of the methods a text is
data Which (w : List ℕ) : Type 0 where
  is_assumption : w ≡ assumption_word → Which w
  is_rule : w ≡ rule_word → Which w
  is_erule : w ≡ erule_word → Which w
  is_drule : w ≡ drule_word → Which w
  is_unfold : w ≡ unfold_word → Which w
  is_none : same w assumption_word ≡ false → same w rule_word ≡ false → same w erule_word ≡ false → same w drule_word ≡ false → same w unfold_word ≡ false → Which w

which : (w : List ℕ) → Which w
which w = first_word (same w assumption_word) (same w rule_word) (same w erule_word) (same w drule_word) (same w unfold_word) refl refl refl refl refl
  where
    first_word : (a b c d e : Bool) → same w assumption_word ≡ a → same w rule_word ≡ b → same w erule_word ≡ c → same w drule_word ≡ d → same w unfold_word ≡ e → Which w
    first_word true b c d e i j k l m = is_assumption (same-is w assumption_word i)
    first_word false true c d e i j k l m = is_rule (same-is w rule_word j)
    first_word false false true d e i j k l m = is_erule (same-is w erule_word k)
    first_word false false false true e i j k l m = is_drule (same-is w drule_word l)
    first_word false false false false true i j k l m = is_unfold (same-is w unfold_word m)
    first_word false false false false false i j k l m = is_none i j k l m

GotBasic : Header → List Command → Goal → List Step → Bool → TheoryText → List Lexeme → Type 0
GotBasic h cs goal script last t r = One basic_text (λ b. InBody h cs (InProof goal (script ++ basic_step b ∷ []) (AfterBasic last))) r t

got-basic_fact : (h : Header) (cs : List Command) (goal : Goal) (script : List Step) (last : Bool) (m : FactMethod) (make : Name → BasicPhrase) (word : List ℕ) (at : Span) (t : TheoryText) (r : List Lexeme)
    → ((n : Name) → basic_step (make n) ≡ fact_step m (name_of n)) → ((n : Name) (r : List Lexeme) → basic_text (make n) r ≡ Plain word at ∷ name_text n r)
    → Gets (InBody h cs (InProof goal script (AtFact last m))) r t → GotBasic h cs goal script last t (Plain word at ∷ r)
unfolding GotBasic
got-basic_fact h cs goal script last m make word at t r step text g =
    let o = got-fact h cs goal script last m t r g in
    record {
      item = make o.item;
      behind = o.behind;
      is = ap (λ z. Plain word at ∷ z) o.is ∙ sym (text o.item o.behind);
      gets = subst (λ z. Gets (InBody h cs (InProof goal (script ++ z ∷ []) (AfterBasic last))) o.behind t) (sym (step o.item)) o.gets;
      less = omega (arith, o.less);
    }

got-basic_word : (h : Header) (cs : List Command) (goal : Goal) (script : List Step) (last : Bool) (t : TheoryText) (w : List ℕ) (at : Span) (r : List Lexeme) → Which w
    → Gets (InBody h cs (InProof goal script (AtBasic last))) (Plain w at ∷ r) t → GotBasic h cs goal script last t (Plain w at ∷ r)
unfolding GotBasic
got-basic_word h cs goal script last t w at r (is_assumption e) g =
    subst (λ w. Gets (InBody h cs (InProof goal script (AtBasic last))) (Plain w at ∷ r) t → GotBasic h cs goal script last t (Plain w at ∷ r)) (sym e)
    (λ g. record { item = ByAssumption at; behind = r; is = refl; gets = g; less = omega arith }) g
got-basic_word h cs goal script last t w at r (is_rule e) g =
    subst (λ w. Gets (InBody h cs (InProof goal script (AtBasic last))) (Plain w at ∷ r) t → GotBasic h cs goal script last t (Plain w at ∷ r)) (sym e)
    (λ g. got-basic_fact h cs goal script last OfRule (ByRule at) rule_word at t r (λ n. refl) (λ n r. refl) g) g
got-basic_word h cs goal script last t w at r (is_erule e) g =
    subst (λ w. Gets (InBody h cs (InProof goal script (AtBasic last))) (Plain w at ∷ r) t → GotBasic h cs goal script last t (Plain w at ∷ r)) (sym e)
    (λ g. got-basic_fact h cs goal script last OfErule (ByErule at) erule_word at t r (λ n. refl) (λ n r. refl) g) g
got-basic_word h cs goal script last t w at r (is_drule e) g =
    subst (λ w. Gets (InBody h cs (InProof goal script (AtBasic last))) (Plain w at ∷ r) t → GotBasic h cs goal script last t (Plain w at ∷ r)) (sym e)
    (λ g. got-basic_fact h cs goal script last OfDrule (ByDrule at) drule_word at t r (λ n. refl) (λ n r. refl) g) g
got-basic_word h cs goal script last t w at r (is_unfold e) g =
    subst (λ w. Gets (InBody h cs (InProof goal script (AtBasic last))) (Plain w at ∷ r) t → GotBasic h cs goal script last t (Plain w at ∷ r)) (sym e)
    (λ g. got-unfolded h cs goal script last at t r g) g
got-basic_word h cs goal script last t w at r (is_none a b c d e) g = absurd (none (rw (a, b, c, d, e) at g) refl)

got-basic : (h : Header) (cs : List Command) (goal : Goal) (last : Bool) (t : TheoryText) (script : List Step) (r : List Lexeme) → Gets (InBody h cs (InProof goal script (AtBasic last))) r t
    → One basic_text (λ b. InBody h cs (InProof goal (script ++ basic_step b ∷ []) (AfterBasic last))) r t
unfolding GotBasic
got-basic h cs goal last t script [] g = absurd (none g refl)
got-basic h cs goal last t script (Plain w at ∷ r) g = got-basic_word h cs goal script last t w at r (which w) g
got-basic h cs goal last t script (l ∷ r) g = absurd (none g refl)

one-basic : (h : Header) (cs : List Command) (goal : Goal) (last : Bool) (t : TheoryText) (script : List Step) (r : List Lexeme) → Gets (InBody h cs (InProof goal script (AfterBasic last))) r t
    → One (λ b r. Signed sign.Comma ∷ basic_text b r) (λ b. InBody h cs (InProof goal (script ++ basic_step b ∷ []) (AfterBasic last))) r t ⊎ Closed (Signed sign.CloseParenthesis) (after h cs goal last script) r t
one-basic h cs goal last t script [] g = absurd (none g refl)
one-basic h cs goal last t script (Signed sign.Comma ∷ r) g =
    let o = got-basic h cs goal last t script r g in
    inl (record { item = o.item; behind = o.behind; is = ap (λ z. Signed sign.Comma ∷ z) o.is; gets = o.gets; less = omega (arith, o.less) })
one-basic h cs (OfLemma m) true t script (Signed sign.CloseParenthesis ∷ r) g = inr (record { behind = r; is = refl; gets = g })
one-basic h cs (OfHave m x p) true t script (Signed sign.CloseParenthesis ∷ r) g = inr (record { behind = r; is = refl; gets = g })
one-basic h cs goal false t script (Signed sign.CloseParenthesis ∷ r) g = inr (record { behind = r; is = refl; gets = g })
one-basic h cs goal last t script (l ∷ r) g = absurd (none g refl)

alone : (h : Header) (cs : List Command) (goal : Goal) (script : List Step) (last : Bool) (t : TheoryText) (w : List ℕ) (at : Span) (r : List Lexeme) (b : Bool) → same w assumption_word ≡ b
    → Gets (InBody h cs (InProof goal script (AtMethod last))) (Plain w at ∷ r) t → One method_text (λ m. after h cs goal last (script ++ method_steps m)) (Plain w at ∷ r) t
alone h cs (OfLemma m) script true t w at r true e g =
    subst (λ w. Gets (InBody h cs (InProof (OfLemma m) script (AtMethod true))) (Plain w at ∷ r) t → One method_text (λ y. after h cs (OfLemma m) true (script ++ method_steps y)) (Plain w at ∷ r) t) (sym (same-is w assumption_word e))
    (λ g. record { item = Alone at; behind = r; is = refl; gets = g; less = omega arith }) g
alone h cs (OfHave m x p) script true t w at r true e g =
    subst (λ w. Gets (InBody h cs (InProof (OfHave m x p) script (AtMethod true))) (Plain w at ∷ r) t → One method_text (λ y. after h cs (OfHave m x p) true (script ++ method_steps y)) (Plain w at ∷ r) t) (sym (same-is w assumption_word e))
    (λ g. record { item = Alone at; behind = r; is = refl; gets = g; less = omega arith }) g
alone h cs goal script false t w at r true e g =
    subst (λ w. Gets (InBody h cs (InProof goal script (AtMethod false))) (Plain w at ∷ r) t → One method_text (λ m. after h cs goal false (script ++ method_steps m)) (Plain w at ∷ r) t) (sym (same-is w assumption_word e))
    (λ g. record { item = Alone at; behind = r; is = refl; gets = g; less = omega arith }) g
alone h cs goal script last t w at r false e g = absurd (none (rw e at g) refl)

got-method : (h : Header) (cs : List Command) (goal : Goal) (script : List Step) (last : Bool) (t : TheoryText) (r : List Lexeme) → Gets (InBody h cs (InProof goal script (AtMethod last))) r t
    → One method_text (λ m. after h cs goal last (script ++ method_steps m)) r t
got-method h cs goal script last t [] g = absurd (none g refl)
got-method h cs goal script last t (Plain w at ∷ r) g = alone h cs goal script last t w at r (same w assumption_word) refl g
got-method h cs goal script last t (Signed sign.OpenParenthesis ∷ r) g =
    let o = got-basic h cs goal last t script r g in
    let m = got-each (λ b r. Signed sign.Comma ∷ basic_text b r) (λ z y. z ++ basic_step y ∷ []) (λ z. InBody h cs (InProof goal z (AfterBasic last))) (λ z r. Closed (Signed sign.CloseParenthesis) (after h cs goal last z) r t) t (one-basic h cs goal last t) (suc (length o.behind)) (script ++ basic_step o.item ∷ []) o.behind (omega arith) o.gets in
    let l : length m.behind ≡ suc (length m.ends.behind) = ap length m.ends.is in
    record {
      item = Together o.item m.items;
      behind = m.ends.behind;
      is = ap (λ z. Signed sign.OpenParenthesis ∷ z) (o.is ∙ ap (basic_text o.item) (m.is ∙ ap (each_comma basic_text m.items) m.ends.is));
      gets = subst (λ z. Gets (after h cs goal last z) m.ends.behind t) (fold-map basic_step (script ++ basic_step o.item ∷ []) m.items ∙ append_assoc script (basic_step o.item ∷ []) (map basic_step m.items)) m.ends.gets;
      less = omega (arith, o.less, m.shorter, l);
    }
got-method h cs goal script last t (l ∷ r) g = absurd (none g refl)

-- the end of a proof
abbrev OutProof : Header → List Command → Goal → TheoryText → List Step → List Lexeme → Type 0
OutProof h cs goal t script r = One end_text (λ e. ended h cs goal (script ++ end_steps e)) r t

one-step : (h : Header) (cs : List Command) (goal : Goal) (t : TheoryText) (script : List Step) (r : List Lexeme) → Gets (InBody h cs (InProof goal script AtStep)) r t
    → One step_text (λ s. InBody h cs (InProof goal (script ++ step_steps s) AtStep)) r t ⊎ OutProof h cs goal t script r
one-step h cs goal t script [] g = absurd (none g refl)
one-step h cs goal t script (Reserved keyword.Apply ∷ r) g =
    let m = got-method h cs goal script false t r g in
    inl (record { item = ApplyStep m.item; behind = m.behind; is = ap (λ z. Reserved keyword.Apply ∷ z) m.is; gets = m.gets; less = omega (arith, m.less) })
one-step h cs goal t script (Reserved keyword.Prefer ∷ []) g = absurd (none g refl)
one-step h cs goal t script (Reserved keyword.Prefer ∷ Numeral n ∷ r) g = inl (record { item = PreferStep n; behind = r; is = refl; gets = g; less = omega arith })
one-step h cs goal t script (Reserved keyword.Prefer ∷ l ∷ r) g = absurd (none g refl)
one-step h cs goal t script (Reserved keyword.Defer ∷ r) g = inl (record { item = DeferStep; behind = r; is = refl; gets = g; less = omega arith })
one-step h cs (OfLemma m) t script (Reserved keyword.Done ∷ r) g = inr (record { item = DoneEnd; behind = r; is = refl; gets = g; less = omega arith })
one-step h cs (OfHave m x p) t script (Reserved keyword.Done ∷ r) g = inr (record { item = DoneEnd; behind = r; is = refl; gets = g; less = omega arith })
one-step h cs goal t script (Reserved keyword.By ∷ r) g =
    let m = got-method h cs goal script true t r g in
    inr (record {
      item = ByEnd m.item;
      behind = m.behind;
      is = ap (λ z. Reserved keyword.By ∷ z) m.is;
      gets = subst (λ z. Gets (ended h cs goal z) m.behind t) (append_assoc script (method_steps m.item) (tree.Close ∷ tree.Done ∷ [])) m.gets;
      less = omega (arith, m.less);
    })
one-step h cs goal t script (l ∷ r) g = absurd (none g refl)

got-proof : (h : Header) (cs : List Command) (goal : Goal) (t : TheoryText) (r : List Lexeme) → Gets (InBody h cs (InProof goal [] AtStep)) r t
    → One proof_text (λ y. ended h cs goal (proof_steps y)) r t
got-proof h cs goal t r g =
    let m = got-each step_text (λ z y. z ++ step_steps y) (λ z. InBody h cs (InProof goal z AtStep)) (OutProof h cs goal t) t (one-step h cs goal t) (suc (length r)) [] r (omega arith) g in
    record {
      item = record { steps = m.items; ending = m.ends.item };
      behind = m.ends.behind;
      is = m.is ∙ ap (each step_text m.items) m.ends.is;
      gets = subst (λ z. Gets (ended h cs goal (z ++ end_steps m.ends.item)) m.ends.behind t) (fold-all step_steps [] m.items) m.ends.gets;
      less = omega (arith, m.shorter, m.ends.less);
    }

-- ---- haves
-- a have, behind its word
record GotHave (h : Header) (cs : List Command) (m : OpenLemma) (r : List Lexeme) (t : TheoryText) : Type 0 where
  item : HavePhrase
  behind : List Lexeme
  is : r ≡ axiom_text item.statement (proof_text item.proof behind)
  gets : Gets (InBody h cs (AtProof (with_have m item.statement.name.text item.statement.prop (proof_steps item.proof)))) behind t
  less : length behind < length r

got-have : (h : Header) (cs : List Command) (m : OpenLemma) (t : TheoryText) (r : List Lexeme) → Gets (InBody h cs (AtHave m)) r t → GotHave h cs m r t
got-have h cs m t [] g = absurd (none g refl)
got-have h cs m t (Plain x at ∷ []) g = absurd (none g refl)
got-have h cs m t (Plain x at ∷ Signed sign.Colon ∷ []) g = absurd (none g refl)
got-have h cs m t (Plain x at ∷ Signed sign.Colon ∷ Quoted p ∷ r) g =
    let o = got-proof h cs (OfHave m x p) t r g in
    record {
      item = record { statement = record { name = record { text = x; at = at }; prop = p }; proof = o.item };
      behind = o.behind;
      is = ap (λ z. Plain x at ∷ Signed sign.Colon ∷ Quoted p ∷ z) o.is;
      gets = o.gets;
      less = omega (arith, o.less);
    }
got-have h cs m t (Plain x at ∷ Signed sign.Colon ∷ l ∷ r) g = absurd (none g refl)
got-have h cs m t (Plain x at ∷ l ∷ r) g = absurd (none g refl)
got-have h cs m t (l ∷ r) g = absurd (none g refl)

-- a have begins, and the file isn't of version 1
record HaveBegins (h : Header) (cs : List Command) (m : OpenLemma) (r : List Lexeme) (t : TheoryText) : Type 0 where
  behind : List Lexeme
  is : r ≡ Reserved keyword.Have ∷ behind
  later : h.version == 1 ≡ false
  gets : Gets (InBody h cs (AtHave m)) behind t

have-begins : (h : Header) (cs : List Command) (m : OpenLemma) (t : TheoryText) (r : List Lexeme) (b : Bool) → h.version == 1 ≡ b → Gets (InBody h cs (AtProof m)) (Reserved keyword.Have ∷ r) t
    → HaveBegins h cs m (Reserved keyword.Have ∷ r) t
have-begins h cs m t r true e g = absurd (none (rw e at g) refl)
have-begins h cs m t r false e g = record { behind = r; is = refl; later = e; gets = rw e at g }

-- behind a statement a have begins, or the lemma's own proof
proof-begins : (h : Header) (cs : List Command) (m : OpenLemma) (t : TheoryText) (r : List Lexeme) → Gets (InBody h cs (AtProof m)) r t
    → HaveBegins h cs m r t ⊎ Gets (InBody h cs (InProof (OfLemma m) [] AtStep)) r t
proof-begins h cs m t [] g = absurd (none g refl)
proof-begins h cs m t (Reserved keyword.Have ∷ r) g = inl (have-begins h cs m t r (h.version == 1) refl g)
proof-begins h cs m t (Reserved keyword.Apply ∷ r) g = inr g
proof-begins h cs m t (Reserved keyword.Prefer ∷ r) g = inr g
proof-begins h cs m t (Reserved keyword.Defer ∷ r) g = inr g
proof-begins h cs m t (Reserved keyword.Done ∷ r) g = inr g
proof-begins h cs m t (Reserved keyword.By ∷ r) g = inr g
proof-begins h cs m t (l ∷ r) g = absurd (none g refl)

abbrev OutHaves : Header → List Command → List ℕ → Span → TheoryText → List Have → List Lexeme → Type 0
OutHaves h cs x p t haves r = Gets (InBody h cs (InProof (OfLemma (open_lemma x p haves)) [] AtStep)) r t

one-have : (h : Header) (cs : List Command) (x : List ℕ) (p : Span) (t : TheoryText) (before : List Have) (r : List Lexeme) → Gets (InBody h cs (AtProof (open_lemma x p before))) r t
    → One have_text (λ y. InBody h cs (AtProof (open_lemma x p (before ++ have_of y ∷ [])))) r t ⊎ OutHaves h cs x p t before r
one-have h cs x p t before r g = elim (proof-begins h cs (open_lemma x p before) t r g) [
  | inl b ↦ (let o = got-have h cs (open_lemma x p before) t b.behind b.gets in
      let l : length r ≡ suc (length b.behind) = ap length b.is in
      inl (record { item = o.item; behind = o.behind; is = b.is ∙ ap (λ z. Reserved keyword.Have ∷ z) o.is; gets = o.gets; less = omega (arith, o.less, l) }))
  | inr own ↦ inr own
]

-- the haves of a lemma were read, none in a file of version 1, and its own proof begins
record GotHaves (h : Header) (cs : List Command) (x : List ℕ) (p : Span) (r : List Lexeme) (t : TheoryText) : Type 0 where
  haves : List HavePhrase
  allowed : h.version ≡ 1 → haves ≡ []
  behind : List Lexeme
  is : r ≡ each have_text haves behind
  gets : Gets (InBody h cs (InProof (OfLemma (open_lemma x p (map have_of haves))) [] AtStep)) behind t
  shorter : length behind ≤ length r

got-haves : (h : Header) (cs : List Command) (x : List ℕ) (p : Span) (t : TheoryText) (r : List Lexeme) → Gets (InBody h cs (AtProof (open_lemma x p []))) r t → GotHaves h cs x p r t
got-haves h cs x p t r g = elim (proof-begins h cs (open_lemma x p []) t r g) [
  | inl b ↦ (let m = got-each have_text (λ z y. z ++ have_of y ∷ []) (λ z. InBody h cs (AtProof (open_lemma x p z))) (OutHaves h cs x p t) t (one-have h cs x p t) (suc (length r)) [] r (omega arith) g in
      record {
        haves = m.items;
        allowed = λ e. absurd (eqb-false h.version 1 b.later e);
        behind = m.behind;
        is = m.is;
        gets = subst (λ z. OutHaves h cs x p t z m.behind) (fold-map have_of [] m.items) m.ends;
        shorter = m.shorter;
      })
  | inr own ↦ record { haves = []; allowed = λ e. refl; behind = r; is = refl; gets = own; shorter = omega arith }
]

-- a statement, its haves and its proof
record LemmaPhrase (version : ℕ) : Type 0 where
  statement : AxiomPhrase
  haves : List HavePhrase
  allowed : version ≡ 1 → haves ≡ []
  proof : ProofPhrase

got-lemma : (h : Header) (cs : List Command) (t : TheoryText) (r : List Lexeme) → Gets (InBody h cs AtLemma) r t
    → One (λ (y : LemmaPhrase h.version) r. axiom_text y.statement (each have_text y.haves (proof_text y.proof r)))
    (λ y. InBody h (cs ++ tree.Lemma y.statement.name.text y.statement.prop (map have_of y.haves) (proof_steps y.proof) ∷ []) AtCommand) r t
got-lemma h cs t [] g = absurd (none g refl)
got-lemma h cs t (Plain x at ∷ []) g = absurd (none g refl)
got-lemma h cs t (Plain x at ∷ Signed sign.Colon ∷ []) g = absurd (none g refl)
got-lemma h cs t (Plain x at ∷ Signed sign.Colon ∷ Quoted p ∷ r) g =
    let m = got-haves h cs x p t r g in
    let o = got-proof h cs (OfLemma (open_lemma x p (map have_of m.haves))) t m.behind m.gets in
    record {
      item = record { statement = record { name = record { text = x; at = at }; prop = p }; haves = m.haves; allowed = m.allowed; proof = o.item };
      behind = o.behind;
      is = ap (λ z. Plain x at ∷ Signed sign.Colon ∷ Quoted p ∷ z) (m.is ∙ ap (each have_text m.haves) o.is);
      gets = o.gets;
      less = omega (arith, m.shorter, o.less);
    }
got-lemma h cs t (Plain x at ∷ Signed sign.Colon ∷ l ∷ r) g = absurd (none g refl)
got-lemma h cs t (Plain x at ∷ l ∷ r) g = absurd (none g refl)
got-lemma h cs t (l ∷ r) g = absurd (none g refl)

-- ---- the commands of a theory
record GotCommands (h : Header) (before : List Command) (r : List Lexeme) (t : TheoryText) : Type 0 where
  commands : List CommandPhrase
  allowed : AllByRecursion (IsCommandPhrase h.version) commands
  is : r ≡ each command_text commands (Reserved keyword.End ∷ Ends ∷ [])
  theory : record { version = h.version; name = h.name; imports = h.imports; commands = before ++ commands_of commands } ≡ t

the_theory : TheoryText → Outcome → TheoryText
the_theory t (Through (AtLast u)) = u
the_theory t _ = t

AtLast-once : (t u : TheoryText) → Through (AtLast t) ≡ Through (AtLast u) → t ≡ u
unfolding the_theory
AtLast-once t u e = ap (the_theory t) e

one-command : (h : Header) (t : TheoryText) (before : List Command) (r : List Lexeme) → Gets (InBody h before AtCommand) r t → GotCommand h before r t ⊎ GotCommands h before r t
one-command h t before [] g = absurd (none g refl)
one-command h t before (Reserved keyword.Class ∷ r) g = inl (got-class h before t r g)
one-command h t before (Reserved keyword.Typedecl ∷ r) g = inl (got-typedecl h before t r g)
one-command h t before (Reserved keyword.Arities ∷ r) g = inl (got-arity h before t r g)
one-command h t before (Reserved keyword.Consts ∷ r) g = inl (got-consts h before t r g)
one-command h t before (Reserved keyword.Axiomatization ∷ r) g = inl (got-axioms h before t r g)
one-command h t before (Reserved keyword.Definition ∷ r) g = inl (got-definition h before t r g)
one-command h t before (Reserved keyword.Lemma ∷ r) g =
    let o = got-lemma h before t r g in
    inl (record { command = LemmaCommand LemmaWritten o.item.statement o.item.haves o.item.proof; allowed = o.item.allowed; behind = o.behind; is = ap (λ z. Reserved keyword.Lemma ∷ z) o.is; gets = o.gets; less = omega (arith, o.less) })
one-command h t before (Reserved keyword.Theorem ∷ r) g =
    let o = got-lemma h before t r g in
    inl (record { command = LemmaCommand TheoremWritten o.item.statement o.item.haves o.item.proof; allowed = o.item.allowed; behind = o.behind; is = ap (λ z. Reserved keyword.Theorem ∷ z) o.is; gets = o.gets; less = omega (arith, o.less) })
one-command h t before (Reserved keyword.End ∷ []) g = absurd (none g refl)
one-command h t before (Reserved keyword.End ∷ Ends ∷ []) g =
    inr (record { commands = []; allowed = tt; is = refl; theory = ap (λ z. record { version = h.version; name = h.name; imports = h.imports; commands = z }) (append-nil before) ∙ AtLast-once _ t g })
one-command h t before (Reserved keyword.End ∷ Ends ∷ l ∷ r) g = absurd (none g refl)
one-command h t before (Reserved keyword.End ∷ l ∷ r) g = absurd (none g refl)
one-command h t before (l ∷ r) g = absurd (none g refl)

more_commands : (h : Header) (t : TheoryText) (n : ℕ) (before : List Command) (r : List Lexeme)
    → ((before : List Command) (r : List Lexeme) → length r < n → Gets (InBody h before AtCommand) r t → GotCommands h before r t)
    → length r < suc n → GotCommand h before r t ⊎ GotCommands h before r t → GotCommands h before r t
more_commands h t n before r again fits (inr m) = m
more_commands h t n before r again fits (inl o) =
    let m = again (before ++ phrase_commands o.command) o.behind (omega (arith, o.less, fits)) o.gets in
    record {
      commands = o.command ∷ m.commands;
      allowed = (o.allowed, m.allowed);
      is = o.is ∙ ap (command_text o.command) m.is;
      theory = ap (λ z. record { version = h.version; name = h.name; imports = h.imports; commands = z }) (sym (append_assoc before (phrase_commands o.command) (commands_of m.commands))) ∙ m.theory;
    }

got-commands : (h : Header) (t : TheoryText) (n : ℕ) (before : List Command) (r : List Lexeme) → length r < n → Gets (InBody h before AtCommand) r t → GotCommands h before r t
got-commands h t zero before r fits g = absurd (omega (arith, fits))
got-commands h t (suc n) before r fits g = more_commands h t n before r (got-commands h t n) fits (one-command h t before r g)

-- ---- files
record GotImports (v : ℕ) (x : List ℕ) (known : List (List ℕ)) (r : List Lexeme) (t : TheoryText) : Type 0 where
  more : List Ident
  behind : List Lexeme
  is : r ≡ each ident_text more (Reserved keyword.Begin ∷ behind)
  gets : Gets (InBody (record { version = v; name = x; imports = mentions known more }) [] AtCommand) behind t

got-imports : (v : ℕ) (x : List ℕ) (t : TheoryText) (known : List (List ℕ)) (r : List Lexeme) → Gets (AfterImport (record { version = v; name = x; imports = known })) r t → GotImports v x known r t
got-imports v x t known [] g = absurd (none g refl)
got-imports v x t known (Plain y at ∷ r) g =
    let m = got-imports v x t (with_text known y) r g in
    record { more = (record { text = y; at = at }) ∷ m.more; behind = m.behind; is = ap (λ z. Plain y at ∷ z) m.is; gets = m.gets }
got-imports v x t known (Reserved keyword.Begin ∷ r) g = record { more = []; behind = r; is = refl; gets = g }
got-imports v x t known (l ∷ r) g = absurd (none g refl)

-- the text of a file that means the theory
pub record GotFile (r : List Lexeme) (t : TheoryText) : Type 0 where
  pub file : FilePhrase
  pub allowed : AllByRecursion (IsCommandPhrase (version_of file.version)) file.commands
  pub is : r ≡ file_text file
  pub theory : file_tree file ≡ t

-- the file, behind its version and the word `theory`
got-theory : (v : VersionPhrase) (t : TheoryText) (r : List Lexeme) → Gets (AtTheoryName (version_of v)) r t → GotFile (version_text v (Reserved keyword.Theory ∷ r)) t
got-theory v t [] g = absurd (none g refl)
got-theory v t (Plain x at ∷ []) g = absurd (none g refl)
got-theory v t (Plain x at ∷ Reserved keyword.Begin ∷ r) g =
    let m = got-commands (record { version = version_of v; name = x; imports = imports_of NoImport }) t (suc (length r)) [] r (omega arith) g in
    record {
      file = record { version = v; name = record { text = x; at = at }; imports = NoImport; commands = m.commands };
      allowed = m.allowed;
      is = ap (λ z. version_text v (Reserved keyword.Theory ∷ Plain x at ∷ Reserved keyword.Begin ∷ z)) m.is;
      theory = m.theory;
    }
got-theory v t (Plain x at ∷ Reserved keyword.Imports ∷ []) g = absurd (none g refl)
got-theory v t (Plain x at ∷ Reserved keyword.Imports ∷ Plain i at' ∷ r) g =
    let j = got-imports (version_of v) x t (i ∷ []) r g in
    let m = got-commands (record { version = version_of v; name = x; imports = mentions (i ∷ []) j.more }) t (suc (length j.behind)) [] j.behind (omega arith) j.gets in
    record {
      file = record { version = v; name = record { text = x; at = at }; imports = Imports (record { text = i; at = at' }) j.more; commands = m.commands };
      allowed = m.allowed;
      is = ap (λ z. version_text v (Reserved keyword.Theory ∷ Plain x at ∷ Reserved keyword.Imports ∷ Plain i at' ∷ z)) (j.is ∙ ap (λ z. each ident_text j.more (Reserved keyword.Begin ∷ z)) m.is);
      theory = m.theory;
    }
got-theory v t (Plain x at ∷ Reserved keyword.Imports ∷ l ∷ r) g = absurd (none g refl)
got-theory v t (Plain x at ∷ l ∷ r) g = absurd (none g refl)
got-theory v t (l ∷ r) g = absurd (none g refl)

pub got-file : (t : TheoryText) (r : List Lexeme) → Gets AtStart r t → GotFile r t
got-file t [] g = absurd (none g refl)
got-file t (Reserved keyword.Theory ∷ r) g = got-theory NoVersion t r g
got-file t (Reserved keyword.Version ∷ []) g = absurd (none g refl)
got-file t (Reserved keyword.Version ∷ Numeral n ∷ []) g = absurd (none g refl)
got-file t (Reserved keyword.Version ∷ Numeral n ∷ Reserved keyword.Theory ∷ r) g = got-theory (WrittenVersion n) t r g
got-file t (Reserved keyword.Version ∷ Numeral n ∷ l ∷ r) g = absurd (none g refl)
got-file t (Reserved keyword.Version ∷ l ∷ r) g = absurd (none g refl)
got-file t (l ∷ r) g = absurd (none g refl)
