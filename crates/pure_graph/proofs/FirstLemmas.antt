-- Files whose trees are as all were while there was one version, and what loading says of them.
use Rattle.std.proofs.Common.{◌≡◌, ◌≢◌, ◌↔◌, inl, inr, ℕ, ◌+◌, Bool, true, false, cond, ◌||◌, List, [], ◌∷◌, length, map, refl, sym, ◌∙◌, ap, subst, arith, Option, Some, None, IfSome, nat_lt, nat_le}
use Rattle.std.specs.List.{list_any, filter_map, cons_option}
use Rattle.std.proofs.lemmas.List.Sums.{sum_by-cons}
use Rattle.pure_text.specs.Lists.{IsIn, Each, EachTwo, AnyOf}
use Rattle.pure_text.proofs.ListLaws.{each_at}
use Rattle.pure_grammar.specs.Theories.TheoryText.{Have, Command, Class, TypeDecl, Arity, Const, Axiom, Definition, Lemma, TheoryText}
use Rattle.pure_graph.specs.Limits.{most_files, most_parts, most_session_parts}
use Rattle.pure_graph.specs.Outcome.{Outcome, Refused, Stands, IsTheoryText, IsFaultPlace, IsSourceOutcome, IsOwnOutcome, is_long, has_long_proof, command_parts, part_count, is_large, is_known_version, is_headed, known_outcome, tree_outcome}
use Rattle.pure_graph.specs.Reading.{Answer, File, IsTried, AreReadFrom, fits, counted, file_parts}
use Rattle.pure_graph.specs.Graph.{IsOutcomeJudged, linked, without, first_absent, imports_of}
use Rattle.pure_graph.specs.Order.{Loaded, file_of, AreTakenBehind}
use Rattle.pure_graph.specs.SessionNames.{full_name, have_names, full_names, IsGiven, AreNames}
use Rattle.pure_graph.specs.Session.{Refusal, Session, IsLoadingOf, IsSessionOf, refusal_of, refusal_by}
use Rattle.pure_graph.specs.First as first
use Rattle.pure_graph.specs.Laws.{HasNoHaves, IsFirstText, HasFirstText, LoadingIsFirst, SessionIsFirst, NoUnknownVersion, LoadedTextsAreFirst}
use Rattle.pure_graph.specs.declared.outcome.Reason.TheVariants.{UnknownVersion, TooLarge, HeaderName}

-- ---- one tree
plain-parts : (c : Command) → HasNoHaves c → command_parts c ≡ 1
plain-parts (Class name above) h = refl
plain-parts (TypeDecl name params) h = refl
plain-parts (Arity con doms class) h = refl
plain-parts (Const name typ) h = refl
plain-parts (Axiom name prop) h = refl
plain-parts (Definition name typ prop) h = refl
plain-parts (Lemma name prop haves script) h = ap (λ (hs : List Have). 1 + length hs) h

-- each command is one part
plain-count : (cs : List Command) → Each HasNoHaves cs → part_count cs ≡ length cs
plain-count [] h = refl
plain-count (c ∷ cs) h =
    let rest = plain-count cs h.1 in
    let all : part_count (c ∷ cs) ≡ command_parts c + part_count cs = sum_by-cons command_parts c cs in
    let own = plain-parts c h.0 in
    omega (arith, rest, all, own)

plain-long : (c : Command) → HasNoHaves c → has_long_proof c ≡ first.has_long_proof c
plain-long (Class name above) h = refl
plain-long (TypeDecl name params) h = refl
plain-long (Arity con doms class) h = refl
plain-long (Const name typ) h = refl
plain-long (Axiom name prop) h = refl
plain-long (Definition name typ prop) h = refl
plain-long (Lemma name prop haves script) h = ap (λ (hs : List Have). list_any (λ (g : Have). is_long g.script) hs || is_long script) h

plain-longs : (cs : List Command) → Each HasNoHaves cs → list_any has_long_proof cs ≡ list_any first.has_long_proof cs
plain-longs [] h = refl
plain-longs (c ∷ cs) h = λ i. plain-long c h.0 i || plain-longs cs h.1 i

plain-large : (text : TheoryText) → IsFirstText text → is_large text ≡ first.is_large text
plain-large text h =
    let limit : most_parts text.version ≡ 512 = ap most_parts h.version in
    let count : part_count text.commands ≡ length text.commands = plain-count text.commands h.commands in
    let long : list_any has_long_proof text.commands ≡ list_any first.has_long_proof text.commands = plain-longs text.commands h.commands in
    λ i. nat_lt (limit i) (count i) || long i

plain-tree : (theory source : List ℕ) (text : TheoryText) → IsFirstText text → tree_outcome theory source text ≡ first.tree_outcome theory source text
plain-tree theory source text h =
    let known : is_known_version text.version ≡ true = ap is_known_version h.version in
    ap (λ b. cond b (known_outcome theory source text) (Refused UnknownVersion)) known
    ∙ ap (λ l. cond (is_headed theory text) (cond l (Refused TooLarge) (Stands source text)) (Refused HeaderName)) (plain-large text h)

plain-names : (theory : List ℕ) (c : Command) → HasNoHaves c → full_names theory c ≡ first.full_names theory c
plain-names theory (Class name above) h = refl
plain-names theory (TypeDecl name params) h = refl
plain-names theory (Arity con doms class) h = refl
plain-names theory (Const name typ) h = refl
plain-names theory (Axiom name prop) h = refl
plain-names theory (Definition name typ prop) h = refl
plain-names theory (Lemma name prop haves script) h = ap (λ (hs : List Have). full_name theory name ∷ have_names (full_name theory name) hs) h

-- ---- one file

-- it isn't refused for its version, or its tree is as all were
abbrev IsFirstOutcome : Outcome → Type 0
IsFirstOutcome (Refused reason) = reason ≢ UnknownVersion
IsFirstOutcome (Stands source text) = IsFirstText text

tree-first : (theory source : List ℕ) (text : TheoryText) → IsFirstText text → IsFirstOutcome (first.tree_outcome theory source text)
tree-first theory source text h = by (is_headed theory text) (first.is_large text)
  where
    by : (headed large : Bool) → IsFirstOutcome (cond headed (cond large (Refused TooLarge) (Stands source text)) (Refused HeaderName))
    by true true = λ e. cc
    by true false = h
    by false large = λ e. cc

counted-first : (n : ℕ) (o : Outcome) → IsFirstOutcome o → IsFirstOutcome (counted n o)
counted-first n o h = by (fits n o)
  where
    by : (b : Bool) → IsFirstOutcome (cond b o (Refused TooLarge))
    by true = h
    by false = λ e. cc

plain-fits : (n : ℕ) (o : Outcome) → IsFirstOutcome o → fits n o ≡ first.fits n o
plain-fits n (Refused reason) h = refl
plain-fits n (Stands source text) h =
    let limit : most_session_parts text.version ≡ 4096 = ap most_session_parts h.version in
    let count : part_count text.commands ≡ length text.commands = plain-count text.commands h.commands in
    λ i. nat_le (n + count i) (limit i)

plain-counted : (n : ℕ) (o : Outcome) → IsFirstOutcome o → counted n o ≡ first.counted n o
plain-counted n o h = ap (λ b. cond b o (Refused TooLarge)) (plain-fits n o h)

plain-sum : (o : Outcome) → IsFirstOutcome o → file_parts o ≡ first.command_count o
plain-sum (Refused reason) h = refl
plain-sum (Stands source text) h = plain-count text.commands h.commands

-- the number of parts behind a file
plain-behind : (n : ℕ) (o : Outcome) → IsFirstOutcome o → n + file_parts (counted n o) ≡ n + first.command_count (first.counted n o)
plain-behind n o h = ap (λ k. n + k) (plain-sum (counted n o) (counted-first n o h) ∙ ap first.command_count (plain-counted n o h))

-- ---- the names
any-alike : {A : Type 0} (P Q : A → Type 0) (xs : List A) → Each (λ x. P x ↔ Q x) xs → AnyOf P xs ↔ AnyOf Q xs
any-alike P Q [] h = (λ m. m, λ m. m)
any-alike P Q (x ∷ xs) h =
    let rest = any-alike P Q xs h.1 in
    (λ m. elim m [ inl p ↦ inl (h.0.0 p) | inr n ↦ inr (rest.0 n) ], λ m. elim m [ inl q ↦ inl (h.0.1 q) | inr n ↦ inr (rest.1 n) ])

named-alike : (theory t : List ℕ) (cs : List Command) → Each HasNoHaves cs → Each (λ (c : Command). IsIn t (full_names theory c) ↔ IsIn t (first.full_names theory c)) cs
named-alike theory t [] h = tt
named-alike theory t (c ∷ cs) h =
    let same : full_names theory c ≡ first.full_names theory c = plain-names theory c h.0 in
    ((λ m. subst (IsIn t) same m, λ m. subst (IsIn t) (sym same) m), named-alike theory t cs h.1)

given-alike : (t : List ℕ) (theories : List Loaded) → Each (λ (l : Loaded). IsFirstText l.text) theories → Each (λ (l : Loaded). IsGiven l t ↔ first.IsGiven l t) theories
given-alike t [] h = tt
given-alike t (l ∷ theories) h =
    let some = any-alike (λ (c : Command). IsIn t (full_names l.name c)) (λ (c : Command). IsIn t (first.full_names l.name c)) l.text.commands (named-alike l.name t l.text.commands h.0.commands) in (
      (λ g. elim g [ inl s ↦ inl s | inr n ↦ inr (some.0 n) ], λ g. elim g [ inl s ↦ inl s | inr n ↦ inr (some.1 n) ]),
      given-alike t theories h.1,
    )

names-alike : (theories : List Loaded) (texts : List (List ℕ)) → Each (λ (l : Loaded). IsFirstText l.text) theories → AreNames theories texts ↔ first.AreNames theories texts
names-alike theories texts h = (
  λ n. record {
    ascend = n.ascend;
    given = λ t.
        (let some = any-alike (λ (l : Loaded). IsGiven l t) (λ (l : Loaded). first.IsGiven l t) theories (given-alike t theories h) in
        (λ m. some.0 ((n.given t).0 m), λ g. (n.given t).1 (some.1 g)));
  },
  λ n. record {
    ascend = n.ascend;
    given = λ t.
        (let some = any-alike (λ (l : Loaded). IsGiven l t) (λ (l : Loaded). first.IsGiven l t) theories (given-alike t theories h) in
        (λ m. some.1 ((n.given t).0 m), λ g. (n.given t).1 (some.0 g)));
  },
)

-- ---- the files that are left
linked-first : (listed : List (List ℕ)) (files : List File) → Each (λ (f : File). IsFirstOutcome f.outcome) files → Each (λ (f : File). IsFirstOutcome f.outcome) (map (linked listed) files)
linked-first listed [] h = tt
linked-first listed (f ∷ files) h = (by f.outcome (first_absent listed (imports_of f.outcome)) h.0, linked-first listed files h.1)
  where
    by : (o : Outcome) (absent : Option (List ℕ)) → IsFirstOutcome o → IsFirstOutcome (without absent o)
    by o None k = k
    by o (Some p) k = λ e. cc

outcome-first : (files : List File) (t : List ℕ) (o p : Outcome) → IsOutcomeJudged files t o p → IsFirstOutcome o → IsFirstOutcome p
outcome-first files t (Refused reason) p e h = subst IsFirstOutcome (sym e) h
outcome-first files t (Stands s x) p (inl (c, e)) h = subst IsFirstOutcome (sym e) (λ same. cc)
outcome-first files t (Stands s x) p (inr (n, inl (q, f, e))) h = subst IsFirstOutcome (sym e) (λ same. cc)
outcome-first files t (Stands s x) p (inr (n, inr (k, e))) h = subst IsFirstOutcome (sym e) h

judged-first : (all files judged : List File) → EachTwo (λ f j. (j.theory ≡ f.theory) × IsOutcomeJudged all f.theory f.outcome j.outcome) files judged
    → Each (λ (f : File). IsFirstOutcome f.outcome) files → Each (λ (f : File). IsFirstOutcome f.outcome) judged
judged-first all [] [] two h = tt
judged-first all [] (j ∷ judged) two h = absurd two
judged-first all (f ∷ files) [] two h = absurd two
judged-first all (f ∷ files) (j ∷ judged) two h = (outcome-first all f.theory f.outcome j.outcome two.0.1 h.0, judged-first all files judged two.1 h.1)

taken-first : (files : List File) (taken : List (List ℕ)) (loaded : List Loaded) → Each (λ (f : File). IsFirstOutcome f.outcome) files → AreTakenBehind files taken loaded → Each (λ (l : Loaded). IsFirstText l.text) loaded
taken-first files taken [] h all = tt
taken-first files taken (l ∷ loaded) h all = (each_at (λ (f : File). IsFirstOutcome f.outcome) files h (file_of l.name l.source l.text) all.0.ready.stands, taken-first files _ loaded h all.2)

refused-first : (judged : List File) → Each (λ (f : File). IsFirstOutcome f.outcome) judged → Each (λ (r : Refusal). r.reason ≢ UnknownVersion) (filter_map refusal_of judged)
refused-first [] h = tt
refused-first (j ∷ judged) h = by j.theory j.outcome h.0 (filter_map refusal_of judged) (refused-first judged h.1)
  where
    by : (theory : List ℕ) (o : Outcome) → IsFirstOutcome o → (rest : List Refusal) → Each (λ (r : Refusal). r.reason ≢ UnknownVersion) rest → Each (λ (r : Refusal). r.reason ≢ UnknownVersion) (cons_option (refusal_by theory o) rest)
    by theory (Refused reason) k rest more = (k, more)
    by theory (Stands source text) k rest more = more

-- ---- where sources are read alike, and their trees are as all were
module _ (IsText : List ℕ → TheoryText → Type 0) (IsFault : List ℕ → ℕ → Type 0) where
  pub record IsReadAlike (source : List ℕ) : Type 0 where
    pub texts : (text : TheoryText) → IsTheoryText source text ↔ IsText source text
    pub faults : (at : ℕ) → IsFaultPlace source at ↔ IsFault source at
    pub plain : (text : TheoryText) → IsTheoryText source text → IsFirstText text

  abbrev pub AreReadAlike : List Answer → Type 0
  AreReadAlike = Each (λ (a : Answer). IfSome a.bytes IsReadAlike)

  source-alike : (theory source : List ℕ) (o : Outcome) → IsReadAlike source → IsSourceOutcome theory source o ↔ first.IsSourceOutcome IsText IsFault theory source o
  source-alike theory source o r = (there, back)
    where
      there : IsSourceOutcome theory source o → first.IsSourceOutcome IsText IsFault theory source o
      there (inl (at, f, e)) = inl (at, (r.faults at).0 f, e)
      there (inr (text, t, e)) = inr (text, (r.texts text).0 t, e ∙ plain-tree theory source text (r.plain text t))

      back : first.IsSourceOutcome IsText IsFault theory source o → IsSourceOutcome theory source o
      back (inl (at, f, e)) = inl (at, (r.faults at).1 f, e)
      back (inr (text, t, e)) = let was : IsTheoryText source text = (r.texts text).1 t in inr (text, was, e ∙ sym (plain-tree theory source text (r.plain text was)))

  own-alike : (theory : List ℕ) (bytes : Option (List ℕ)) (o : Outcome) → IfSome bytes IsReadAlike → IsOwnOutcome theory bytes o ↔ first.IsOwnOutcome IsText IsFault theory bytes o
  own-alike theory None o r = (λ e. e, λ e. e)
  own-alike theory (Some source) o r =
      let one = source-alike theory source o r in
      (λ w. elim w [ inl long ↦ inl long | inr short ↦ inr (short.0, one.0 short.1) ], λ w. elim w [ inl long ↦ inl long | inr short ↦ inr (short.0, one.1 short.1) ])

  tried-alike : (is_read : Bool) (a : Answer) (o : Outcome) → IfSome a.bytes IsReadAlike → IsTried is_read a o ↔ first.IsTried IsText IsFault is_read a o
  tried-alike true a o r = own-alike a.theory a.bytes o r
  tried-alike false a o r = (λ e. e, λ e. e)

  own-first : (theory : List ℕ) (bytes : Option (List ℕ)) (o : Outcome) → IfSome bytes IsReadAlike → IsOwnOutcome theory bytes o → IsFirstOutcome o
  own-first theory None o r e = subst IsFirstOutcome (sym e) (λ same. cc)
  own-first theory (Some source) o r (inl (long, e)) = subst IsFirstOutcome (sym e) (λ same. cc)
  own-first theory (Some source) o r (inr (short, inl (at, f, e))) = subst IsFirstOutcome (sym e) (λ same. cc)
  own-first theory (Some source) o r (inr (short, inr (text, t, e))) =
      subst IsFirstOutcome (sym (e ∙ plain-tree theory source text (r.plain text t))) (tree-first theory source text (r.plain text t))

  tried-first : (is_read : Bool) (a : Answer) (o : Outcome) → IfSome a.bytes IsReadAlike → IsTried is_read a o → IsFirstOutcome o
  tried-first true a o r tried = own-first a.theory a.bytes o r tried
  tried-first false a o r e = subst IsFirstOutcome (sym e) (λ same. cc)

  read-there : (place n : ℕ) (answers : List Answer) (files : List File) → AreReadAlike answers → AreReadFrom place n answers files → first.AreReadFrom IsText IsFault place n answers files
  read-there place n [] [] r read = tt
  read-there place n [] (f ∷ files) r read = absurd read
  read-there place n (a ∷ answers) [] r read = absurd read
  read-there place n (a ∷ answers) (f ∷ files) r (own, tried, made, rest) =
      let is_first : IsFirstOutcome own = tried-first (nat_lt place most_files) a own r.0 tried in (
        own,
        (tried-alike (nat_lt place most_files) a own r.0).0 tried,
        made ∙ ap (λ o. record { theory = a.theory; outcome = o }) (plain-counted n own is_first),
        read-there (place + 1) _ answers files r.1 (subst (λ k. AreReadFrom (place + 1) k answers files) (plain-behind n own is_first) rest),
      )

  read-back : (place n : ℕ) (answers : List Answer) (files : List File) → AreReadAlike answers → first.AreReadFrom IsText IsFault place n answers files → AreReadFrom place n answers files
  read-back place n [] [] r read = tt
  read-back place n [] (f ∷ files) r read = absurd read
  read-back place n (a ∷ answers) [] r read = absurd read
  read-back place n (a ∷ answers) (f ∷ files) r (own, tried, made, rest) =
      let was : IsTried (nat_lt place most_files) a own = (tried-alike (nat_lt place most_files) a own r.0).1 tried in
      let is_first : IsFirstOutcome own = tried-first (nat_lt place most_files) a own r.0 was in (
        own,
        was,
        made ∙ ap (λ o. record { theory = a.theory; outcome = o }) (sym (plain-counted n own is_first)),
        subst (λ k. AreReadFrom (place + 1) k answers files) (sym (plain-behind n own is_first)) (read-back (place + 1) _ answers files r.1 rest),
      )

  read-first : (place n : ℕ) (answers : List Answer) (files : List File) → AreReadAlike answers → AreReadFrom place n answers files → Each (λ (f : File). IsFirstOutcome f.outcome) files
  read-first place n [] [] r read = tt
  read-first place n [] (f ∷ files) r read = absurd read
  read-first place n (a ∷ answers) [] r read = absurd read
  read-first place n (a ∷ answers) (f ∷ files) r (own, tried, made, rest) = (
    subst (λ (g : File). IsFirstOutcome g.outcome) (sym made) (counted-first n own (tried-first (nat_lt place most_files) a own r.0 tried)),
    read-first (place + 1) _ answers files r.1 rest,
  )

  left-first : (answers : List Answer) (theories : List Loaded) (refused : List Refusal) (n : ℕ) → AreReadAlike answers → (of : IsLoadingOf answers theories refused n) → Each (λ (f : File). IsFirstOutcome f.outcome) of.judged
  left-first answers theories refused n r of =
      let listed : List (List ℕ) = map (λ (a : Answer). a.theory) answers in
      judged-first (map (linked listed) of.read) (map (linked listed) of.read) of.judged of.are_judged (linked-first listed of.read (read-first 0 0 answers of.read r of.are_read))

  pub none-unknown : (answers : List Answer) (theories : List Loaded) (refused : List Refusal) (n : ℕ) → AreReadAlike answers → IsLoadingOf answers theories refused n → Each (λ (r : Refusal). r.reason ≢ UnknownVersion) refused
  none-unknown answers theories refused n r of =
      subst (Each (λ (x : Refusal). x.reason ≢ UnknownVersion)) (sym of.refused_are) (refused-first of.judged (left-first answers theories refused n r of))

  pub loading-alike : (answers : List Answer) (theories : List Loaded) (refused : List Refusal) (n : ℕ) → AreReadAlike answers → IsLoadingOf answers theories refused n ↔ first.IsLoadingOf IsText IsFault answers theories refused n
  loading-alike answers theories refused n r = (
    λ of. record {
      read = of.read;
      judged = of.judged;
      are_read = read-there 0 0 answers of.read r of.are_read;
      are_judged = of.are_judged;
      loaded = of.loaded;
      refused_are = of.refused_are;
      counted = of.counted;
    },
    λ of. record {
      read = of.read;
      judged = of.judged;
      are_read = read-back 0 0 answers of.read r of.are_read;
      are_judged = of.are_judged;
      loaded = of.loaded;
      refused_are = of.refused_are;
      counted = of.counted;
    },
  )

  pub texts-first : (answers : List Answer) (theories : List Loaded) (refused : List Refusal) (n : ℕ) → AreReadAlike answers → IsLoadingOf answers theories refused n → Each (λ (l : Loaded). IsFirstText l.text) theories
  texts-first answers theories refused n r of = taken-first of.judged [] theories (left-first answers theories refused n r of) of.loaded

  pub session-alike : (answers : List Answer) (s : Session) → AreReadAlike answers → IsSessionOf answers s ↔ first.IsSessionOf IsText IsFault answers s
  session-alike answers s r =
      let both = loading-alike answers s.theories s.refused s.files r in (
        λ is. record { loading = both.0 is.loading; named = (names-alike s.theories s.names (texts-first answers s.theories s.refused s.files r is.loading)).0 is.named },
        λ is.
            (let loading : IsLoadingOf answers s.theories s.refused s.files = both.1 is.loading in
            record { loading = loading; named = (names-alike s.theories s.names (texts-first answers s.theories s.refused s.files r loading)).1 is.named }),
      )

-- ---- the laws over the grammar as it is
first-read : (answers : List Answer) → Each HasFirstText answers → AreReadAlike IsTheoryText IsFaultPlace answers
first-read [] h = tt
first-read (a ∷ answers) h = (by a.bytes h.0, first-read answers h.1)
  where
    by : (bytes : Option (List ℕ)) → IfSome bytes (λ source. (text : TheoryText) → IsTheoryText source text → IsFirstText text) → IfSome bytes (IsReadAlike IsTheoryText IsFaultPlace)
    by None k = tt
    by (Some source) k = record { texts = λ text. (λ t. t, λ t. t); faults = λ at. (λ f. f, λ f. f); plain = k }

pub loading_is_first : LoadingIsFirst
loading_is_first answers theories refused files h = loading-alike IsTheoryText IsFaultPlace answers theories refused files (first-read answers h)

pub session_is_first : SessionIsFirst
session_is_first answers session h = session-alike IsTheoryText IsFaultPlace answers session (first-read answers h)

pub no_unknown_version : NoUnknownVersion
no_unknown_version answers theories refused files h = none-unknown IsTheoryText IsFaultPlace answers theories refused files (first-read answers h)

pub loaded_texts_are_first : LoadedTextsAreFirst
loaded_texts_are_first answers theories refused files h = texts-first IsTheoryText IsFaultPlace answers theories refused files (first-read answers h)
