-- Theories at their indexes.
use Rattle.std.proofs.Common.{◌≡◌, ◌∙◌, ℕ, zero, suc, ◌+◌, ◌-◌, ◌<◌, ◌≤◌, inl, inr, List, [], ◌∷◌, length, get_or, ap, sym, refl, subst, arith}
use Rattle.std.specs.Prelude.{Some, slice_get}
use Rattle.std.specs.Option.{option_map}
use Rattle.std.proofs.lemmas.Option.{slice_get-map, slice_get_within, slice_get_read, slice_get_cases}
use Rattle.std.proofs.lemmas.List.{length-map}
use Rattle.pure_text.specs.Lists.{Each}
use Rattle.pure_grammar.specs.Theories.TheoryText.{Command}
use Rattle.pure_script.specs.Seen.{seen_command}
use Rattle.pure_graph.specs.Limits.{parts_bound}
use Rattle.pure_graph.specs.Order.{Loaded}
use Rattle.pure_graph.specs.Outcome.{part_count}
use Rattle.pure_graph.proofs.LimitLemmas.{parts-bounded}
use Rattle.pure_graph.proofs.HeaderLemmas.{commands-counted}
use Rattle.pure_session.specs.declared.order.Loaded as code
use Rattle.pure_session.specs.Waiting.{seen_loaded, all_loaded}
use Rattle.pure_session_meaning.specs.SessionLaws.Loaded.{IsLoadedSession}
use Rattle.pure_session_meaning.specs.Verdicts.{IsTheoryAt}
use Rattle.pure_session_meaning.proofs.TextLaws.{theory-well}

pub index-some : (theories : List Loaded) (index : ℕ) (T : Loaded) → IsTheoryAt theories index T → 1 ≤ index
index-some theories index T h = omega (arith, h.1)

pub place-within : (items : List code.Loaded) (theories : List Loaded) (index : ℕ) (T : Loaded) → all_loaded items ≡ theories → IsTheoryAt theories index T → index - 1 < length items
place-within items theories index T same h = omega (arith, h.1, slice_get_within theories h.0 T h.2, ap length same, length-map items seen_loaded)

pub loaded-at : (items : List code.Loaded) (theories : List Loaded) (index : ℕ) (l : code.Loaded) → all_loaded items ≡ theories → 1 ≤ index → index - 1 < length items → l ≡ get_or items (index - 1) l
    → IsTheoryAt theories index (seen_loaded l)
loaded-at items theories index l same one within read = (
  index - 1,
  omega (arith, one),
  ap (λ (ts : List Loaded). slice_get ts (index - 1)) (sym same) ∙ slice_get-map seen_loaded items (index - 1) ∙ ap (option_map seen_loaded) (slice_get_read items (length items) (index - 1) l refl within read),
)

pub loaded-here : (items : List code.Loaded) (theories : List Loaded) (index : ℕ) (l : code.Loaded) → ((T : Loaded) × IsTheoryAt theories index T) → all_loaded items ≡ theories → l ≡ get_or items (index - 1) l → IsTheoryAt theories index (seen_loaded l)
loaded-here items theories index l h same read = loaded-at items theories index l same (index-some theories index h.0 h.1) (place-within items theories index h.0 same h.1) read

-- The theory behind so many others.
pub theory-behind : (theories : List Loaded) (place index : ℕ) → place < length theories → index ≡ place + 1 → (T : Loaded) × IsTheoryAt theories index T
theory-behind theories place index within next = elim (slice_get_cases theories place).1 [
  | inl h ↦ (h.0, (place, omega (arith, next), h.2))
  | inr h ↦ absurd (omega (arith, within, h.0))
]

-- What all have, one has.
pub each-get : {A : Type 0} (P : A → Type 0) (xs : List A) (d : A) (i : ℕ) → Each P xs → i < length xs → P (get_or xs i d)
each-get P [] d i h within = absurd (omega (arith, within))
each-get P (x ∷ xs) d zero h within = h.0
each-get P (x ∷ xs) d (suc i) h within = each-get P xs d i h.1 (omega (arith, within))

module _ (texts : List (List ℕ)) (theories : List Loaded) (session : IsLoadedSession texts theories) where
  -- A loaded theory has few commands.
  pub commands-few : (index : ℕ) (l : code.Loaded) → IsTheoryAt theories index (seen_loaded l) → length l.text.commands.items ≤ parts_bound
  commands-few index l at = omega (arith, (theory-well texts theories session index (seen_loaded l) at).few, parts-bounded (seen_loaded l).text.version, commands-counted (seen_loaded l).text.commands, length-map l.text.commands.items seen_command)

  -- So are their parts.
  pub parts-few : (index : ℕ) (l : code.Loaded) → IsTheoryAt theories index (seen_loaded l) → part_count (seen_loaded l).text.commands < 4294967296
  parts-few index l at = omega (arith, (theory-well texts theories session index (seen_loaded l) at).few, parts-bounded (seen_loaded l).text.version)

  pub place-few : (index : ℕ) (T : Loaded) → IsTheoryAt theories index T → (place : ℕ) (command : Command) → slice_get T.text.commands place ≡ Some command → place < parts_bound
  place-few index T at place command held = omega (arith, (theory-well texts theories session index T at).few, parts-bounded T.text.version, commands-counted T.text.commands, slice_get_within T.text.commands place command held)

  -- Its parents are among those before it.
  pub parents-before : (index before : ℕ) (T : Loaded) → IsTheoryAt theories index T → index ≡ before + 1 → Each (λ p. (1 ≤ p) × (p ≤ before)) T.parents
  parents-before index before T at next =
      let here : at.0 ≡ before = omega (arith, at.1, next) in
      subst (λ (n : ℕ). Each (λ p. (1 ≤ p) × (p ≤ n)) T.parents) here (session.parents at.0 T at.2)
