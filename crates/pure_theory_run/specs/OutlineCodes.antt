-- The code of outlines, by which a proof tells two of them apart.
use Rattle.std.specs.Prelude.{◌≡◌, ◌⊎◌, ℕ, List, Option, nat_eq, if◌then◌else◌, refl}
use Rattle.std.proofs.Common.{inl, inr}
use Rattle.std.specs.Coded.{Coded, code_by, coded×, coded⊎, coded_ℕ, coded_list, coded_option}
use Rattle.pure_logic.specs.Content.{Content}
use Rattle.pure_session_meaning.specs.Theory.Codes.{coded_content}
use Rattle.pure_print.specs.declared.row.Row.{Row}
use Rattle.pure_print.specs.declared.row.RowStatus.{RowStatus}
use Rattle.pure_print.specs.declared.row.RowStatus.TheVariants.{Declared, Refused, Proved, Failed, Tainted, Cancelled, Unsettled}
use Rattle.pure_print.specs.RowText.{status_place}
use Rattle.pure_session_meaning.specs.Declare.Codes.{coded_text}
use Rattle.pure_theory_run.specs.Outline.{Outline, Barred, Ran}

-- the status at a place
abbrev pub status_at : ℕ → RowStatus
status_at n =
    if nat_eq n 0 then Declared else if nat_eq n 1 then Refused else if nat_eq n 2 then Proved else if nat_eq n 3 then Failed
    else if nat_eq n 4 then Tainted else if nat_eq n 5 then Cancelled else Unsettled

pub status_at-place : (s : RowStatus) → status_at (status_place s) ≡ s
status_at-place Declared = refl
status_at-place Refused = refl
status_at-place Proved = refl
status_at-place Failed = refl
status_at-place Tainted = refl
status_at-place Cancelled = refl
status_at-place Unsettled = refl

abbrev pub coded_status : Coded RowStatus
coded_status = code_by ℕ coded_ℕ status_place status_at status_at-place

abbrev pub coded_row : Coded Row
coded_row =
    code_by (RowStatus × (List ℕ × List ℕ)) (coded× coded_status (coded× coded_text coded_text))
    (λ r. (r.status, (r.head, r.tail))) (λ p. record { status = p.0; head = p.1.0; tail = p.1.1 }) (λ _. refl)

abbrev pub to_endings : Outline → Row ⊎ (List (Option Row) × Content)
to_endings (Barred row) = inl row
to_endings (Ran rows last) = inr (rows, last)

abbrev pub from_endings : Row ⊎ (List (Option Row) × Content) → Outline
from_endings (inl row) = Barred row
from_endings (inr p) = Ran p.0 p.1

pub from-to_endings : (o : Outline) → from_endings (to_endings o) ≡ o
from-to_endings (Barred row) = refl
from-to_endings (Ran rows last) = refl

abbrev pub coded_outline : Coded Outline
coded_outline =
    code_by (Row ⊎ (List (Option Row) × Content)) (coded⊎ coded_row (coded× (coded_list (coded_option coded_row)) coded_content)) to_endings from_endings from-to_endings
