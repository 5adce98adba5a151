-- Where the first fault of a source stands, and the front of a file.
use Rattle.std.proofs.Common.{◌≡◌, ℕ, zero, suc, ◌+◌, ◌-◌, ◌<◌, ◌≤◌, List, [], ◌∷◌, length, take, ◌∙◌, ap, subst, arith, inl, inr, take_all, length-take}
use Rattle.std.specs.Prelude.{slice_range}
use Rattle.pure_grammar.specs.declared.token.Token.{Token}
use Rattle.pure_grammar.specs.Tokens.Spelling.{AreSlices, HasFault, Spells}
use Rattle.pure_grammar.specs.Theories.Outer.{place_of, HasSyntaxFault}
use Rattle.pure_grammar.specs.declared.token.TokenKind.{TokenKind}
use Rattle.pure_script.specs.Faults.{IsFaultOf}
use Rattle.pure_script.specs.declared.theory.ScriptFault.{ScriptFault}
use Rattle.pure_script.specs.declared.theory.ScriptFault.TheVariants.{Syntax}
use Rattle.pure_lex.proofs.Steps.{fault-within}
use Rattle.pure_graph.specs.Limits.{most_bytes}
use Rattle.pure_graph.specs.Outcome.{Outcome, Refused, IsFaultPlace, IsBytesOutcome, syntax_at}
use Rattle.pure_graph.specs.Parsed.{IsParsed}
use Rattle.pure_graph.specs.declared.outcome.Reason.{Reason}
use Rattle.pure_graph.specs.declared.source.Parsed.{Parsed}
use Rattle.pure_graph.specs.declared.source.Parsed.TheVariants.{Outside}

pub fault-place : (to place : ℕ) (bytes : List ℕ) → HasFault to bytes place → place ≤ to
fault-place to place bytes f = omega (arith, f.at_place, fault-within f.rest f.skipped f.fault)

pub token-place : (source : List ℕ) (ts : List Token) (from to k : ℕ) → AreSlices source from to ts → place_of ts (length source) k ≤ length source
token-place source [] from to zero are = omega arith
token-place source [] from to (suc k) are = omega arith
token-place source (t ∷ ts) from to zero are = omega (arith, are.1.some, are.1.within)
token-place source (t ∷ ts) from to (suc k) are = token-place source ts t.to to k are.2

pub whole-range : (source : List ℕ) → slice_range source 0 (length source) ≡ source
whole-range source =
    let all : length source - 0 ≡ length source = omega arith in
    ap (λ n. take n source) all ∙ take_all (length source) source (omega arith)

pub token-fault : (source : List ℕ) (at : ℕ) → HasFault (length source) (slice_range source 0 (length source)) at → IsFaultPlace source at × (at ≤ length source)
token-fault source at f =
    let fault : HasFault (length source) source at = subst (λ s. HasFault (length source) s at) (whole-range source) f in
    (inl fault, fault-place (length source) at source fault)

pub grammar-fault : (source : List ℕ) (tokens seen : List Token) (at : ℕ) (expected : TokenKind) (fault : ScriptFault) → Spells (length source) tokens (slice_range source 0 (length source))
    → AreSlices source 0 (length source) tokens → seen ≡ tokens → IsFaultOf source seen fault → fault ≡ Syntax at expected → IsFaultPlace source at × (at ≤ length source)
grammar-fault source tokens seen at expected fault spells are same told is =
    let f : HasSyntaxFault source tokens at expected = subst (λ x. IsFaultOf source tokens x) is (subst (λ ts. IsFaultOf source ts fault) same told) in
    let spelled : Spells (length source) tokens source = subst (Spells (length source) tokens) (whole-range source) spells in
    let place = token-place source tokens 0 (length source) (length f.before) are in
    (inr (tokens, expected, spelled, f), omega (arith, place, f.at_place))

pub outside-outcome : (theory source held again : List ℕ) (p : Parsed) (at : ℕ) (reason : Reason) → held ≡ source → again ≡ source → length source ≤ most_bytes → IsParsed held p → p ≡ Outside at
    → reason ≡ syntax_at again at → IsBytesOutcome theory source (Refused reason)
outside-outcome theory source held again p at reason e1 e2 short parsed is reason_is =
    let found : IsFaultPlace held at × (at ≤ length held) = subst (IsParsed held) is parsed in
    inr (short, inl (at, subst (λ s. IsFaultPlace s at) e1 found.0, ap (λ r. Refused r) reason_is ∙ ap (λ s. Refused (syntax_at s at)) e2))

-- one byte more than a number shows that there are more
front-long : (m : ℕ) (bytes text : List ℕ) → text ≡ take (m + 1) bytes → m < length text → m < length bytes
front-long m bytes text is long =
    let l : length text ≡ length (take (m + 1) bytes) = ap length is in
    let cut = length-take (m + 1) bytes in
    omega arith

front-whole : (m : ℕ) (bytes text : List ℕ) → text ≡ take (m + 1) bytes → length text ≤ m → text ≡ bytes
front-whole m bytes text is short =
    let l : length text ≡ length (take (m + 1) bytes) = ap length is in
    let cut = length-take (m + 1) bytes in
    let all : length bytes ≤ m + 1 = omega arith in
    is ∙ take_all (m + 1) bytes all

-- the first bytes of a file, one more than it may have, say what all its bytes say
pub front-outcome : (theory bytes text : List ℕ) (outcome : Outcome) → text ≡ take (most_bytes + 1) bytes → IsBytesOutcome theory text outcome → IsBytesOutcome theory bytes outcome
front-outcome theory bytes text outcome is (inl (long, e)) = inl (front-long most_bytes bytes text is long, e)
front-outcome theory bytes text outcome is (inr (short, w)) =
    subst (λ s. IsBytesOutcome theory s outcome) (front-whole most_bytes bytes text is short) (inr (short, w))
