-- Each theory of a session is as those who check it ask.
use Rattle.std.proofs.Common.{◌≡◌, ◌≢◌, ◌<◌, ◌≤◌, ◌⊎◌, inl, inr, ℕ, true, false, not, List, length, refl, sym, ◌∙◌, ap, subst, arith, nat_lt, Some}
use Rattle.std.specs.Prelude.{slice_range}
use Rattle.std.specs.List.{list_any}
use Rattle.std.specs.Cmp.Lexicographic.{same_text, nat_list_eq_equiv}
use Rattle.std.proofs.lemmas.Bool.{and_parts, both_ways, not-true, ltb-false}
use Rattle.pure_text.specs.Lists.{IsIn, Each}
use Rattle.pure_text.proofs.ListLaws.{each_of, each_at, each_imply, any_of}
use Rattle.pure_grammar.specs.declared.token.Token.{Token}
use Rattle.pure_grammar.specs.declared.token.TokenKind.{TokenKind}
use Rattle.pure_grammar.specs.declared.token.TokenKind.TheVariants.{Ident}
use Rattle.pure_grammar.specs.Tokens.Token.{is_token, is_spelling, is_keyword}
use Rattle.pure_grammar.specs.Tokens.Spelling.{Spells, AreSlices, IsSlice}
use Rattle.pure_grammar.specs.Theories.Lexeme.{same}
use Rattle.pure_grammar.specs.Theories.TheoryText.{Command, TheoryText}
use Rattle.pure_grammar.specs.Theories.Spans.{Cited, IsCited, command_spans, cited_span}
use Rattle.pure_grammar.specs.Theories.Outer.{SpellsTheory}
use Rattle.pure_grammar.proofs.Slices.{tokens_are_slices}
use Rattle.pure_grammar.proofs.SpanLemmas.{each_span_is_cited}
use Rattle.pure_graph.specs.Limits.{most_bytes, most_parts}
use Rattle.pure_graph.specs.Outcome.{IsTheoryText, is_headed, has_long_proof, part_count, pure_theory}
use Rattle.pure_graph.specs.Order.{Loaded}
use Rattle.pure_graph.specs.SessionNames.{spelling_of, Gives, GivesInside, IsSpelled, IsGiven, full_names}
use Rattle.pure_graph.proofs.SourceLemmas.{whole-range}
use Rattle.pure_session.proofs.SetLemmas.{each-slice}
use Rattle.pure_session.proofs.PlainLemmas.{plain-spelling}
use Rattle.pure_lookup.specs.Meaning.{pure_text}
use Rattle.pure_method.specs.Declare.Premises.{LiesIn, HasRanges, HasFullNames, IsNamed}
use Rattle.pure_session_laws.specs.Well.{IsWellLoaded, LoadedWell}
use Rattle.pure_session_laws.proofs.StoodLaws.{IsOwn, loaded-own}
use Rattle.pure_session_laws.proofs.HeaderLaws.{IsNameToken, name-token}
use Rattle.pure_session_laws.proofs.NamedLaws.{is-named, full-named}
use Rattle.pure_session_laws.proofs.ScriptLaws.{neither, scripts-of}

are-slices : (source : List ℕ) (tokens : List Token) → Spells (length source) tokens source → AreSlices source 0 (length source) tokens
are-slices source tokens spells = tokens_are_slices 0 (length source) source tokens (omega arith) (omega arith) (subst (Spells (length source) tokens) (sym (whole-range source)) spells)

-- ---- ranges

lie-in : (source : List ℕ) (tokens : List Token) (cs : List Cited) → Each (IsCited source tokens) cs → Each (λ c. LiesIn source (cited_span c)) cs
lie-in source tokens cs each = each_imply (IsCited source tokens) (λ c. LiesIn source (cited_span c)) cs (λ c is. record { order = is.order; within = is.within }) each

ranges-of : (source : List ℕ) (tokens : List Token) (text : TheoryText) → Spells (length source) tokens source → SpellsTheory source tokens text → Each (HasRanges source) text.commands
ranges-of source tokens text spells is =
    each_imply (λ c. Each (IsCited source tokens) (command_spans c)) (HasRanges source) text.commands (λ c each. lie-in source tokens (command_spans c) each)
    (each_span_is_cited source tokens text (are-slices source tokens spells) is)

-- ---- the theory's name

-- the name has no dot, and it is a spelling of the source
record IsPlainName (source name : List ℕ) : Type 0 where
  pub plain : ¬ IsIn 46 name
  pub spelled : IsSpelled source name

ident-spelling : (bytes : List ℕ) (k : TokenKind) → k ≡ Ident → is_token k bytes ≡ true → is_spelling bytes ≡ true
ident-spelling bytes k e h =
    let ident : is_token Ident bytes ≡ true = subst (λ j. is_token j bytes ≡ true) e h in
    (and_parts (is_spelling bytes) (not (is_keyword bytes)) ident).0

name-of : (source : List ℕ) (tokens : List Token) (name : List ℕ) (t : Token) → Spells (length source) tokens source → IsNameToken source tokens name t → IsPlainName source name
name-of source tokens name t spells is =
    let slice : IsSlice source t = each_at (IsSlice source) tokens (each-slice source 0 (length source) tokens (are-slices source tokens spells)) t is.among in
    let spelling : is_spelling (slice_range source t.from t.to) ≡ true = ident-spelling (slice_range source t.from t.to) t.kind is.ident slice.spelled in
    let gives : Gives source false t name = ap (λ k. spelling_of false k (slice_range source t.from t.to)) is.ident ∙ ap Some is.bytes in
    record {
      plain = plain-spelling name (subst (λ b. is_spelling b ≡ true) is.bytes spelling);
      spelled = (tokens, spells, any_of (λ token. Gives source false token name ⊎ GivesInside source token name) t tokens is.among (inl gives));
    }

plain-name : (source : List ℕ) (text : TheoryText) → IsTheoryText source text → IsPlainName source text.name
plain-name source text (tokens, spells, is) =
    let w = name-token source tokens is.file is.spelled in
    subst (λ (t : TheoryText). IsPlainName source t.name) is.means (name-of source tokens is.file.name.text w.0 spells w.1)

same-pure : pure_theory ≡ pure_text
unfolding pure_theory pure_text
same-pure = refl

-- the header's name is the theory's, and it isn't Pure's
record IsHead (theory : List ℕ) (text : TheoryText) : Type 0 where
  pub same_name : text.name ≡ theory
  pub other : theory ≢ pure_text

head-of : (theory : List ℕ) (text : TheoryText) → is_headed theory text ≡ true → IsHead theory text
head-of theory text h =
    let parts = and_parts (same text.name theory) (not (same text.name pure_theory)) h in
    let name : text.name ≡ theory = same_text text.name theory (sym parts.0) in
    record {
      same_name = name;
      other = λ e. both_ways (same text.name pure_theory) (not-true (same text.name pure_theory) parts.1) (ap (λ n. same n pure_theory) (name ∙ e ∙ sym same-pure) ∙ nat_list_eq_equiv.refl pure_theory);
    }

-- ---- a theory

-- the texts that the theory gives are names'
abbrev AreItsNames : List (List ℕ) → Loaded → Type 0
AreItsNames texts l = (t : List ℕ) → IsGiven l t → IsNamed texts t

full-of : (texts : List (List ℕ)) (l : Loaded) → AreItsNames texts l → Each (λ (c : Command). HasFullNames texts l.name c) l.text.commands
full-of texts l has = each_of (λ (c : Command). HasFullNames texts l.name c) l.text.commands
    (λ c m. full-named texts l.name c (λ t n. has t (inr (any_of (λ (d : Command). IsIn t (full_names l.name d)) c l.text.commands m n))))

small-enough : (n : ℕ) → n ≤ most_bytes → n < 4294967295
small-enough n h = omega (arith, h)

well : (texts : List (List ℕ)) (l : Loaded) → AreItsNames texts l → IsOwn l.name l.source l.text → IsWellLoaded texts l
well texts l has own =
    let head : IsHead l.name l.text = head-of l.name l.text own.headed in
    let name : IsPlainName l.source l.name = subst (IsPlainName l.source) head.same_name (plain-name l.source l.text own.spelled) in
    let sizes = neither (nat_lt (most_parts l.text.version) (part_count l.text.commands)) (list_any has_long_proof l.text.commands) own.fitting in
    let is = own.spelled.2 in
    record {
      small = small-enough (length l.source) own.size;
      ranges = ranges-of l.source own.spelled.0 l.text own.spelled.1 is;
      named = has l.name (inl name.spelled);
      full = full-of texts l has;
      plain = (name.plain, head.other);
      scripts = scripts-of is.file.commands l.text.commands (ap (λ (t : TheoryText). t.commands) is.means) sizes.1;
      few = ltb-false (most_parts l.text.version) (part_count l.text.commands) sizes.0;
    }

pub loaded-well : LoadedWell
loaded-well answers theories refused n of texts names = each_of (IsWellLoaded texts) theories (λ l m.
    well texts l (λ t given. is-named texts t ((names.given t).1 (any_of (λ (k : Loaded). IsGiven k t) l theories m given))) (loaded-own answers theories refused n of l m))
