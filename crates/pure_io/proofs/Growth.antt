-- How bytes that are appended, and bytes that are read, add up over several calls.
use Rattle.std.proofs.Common.{◌≡◌, ℕ, ◌+◌, List, ◌++◌, take, drop, Option, Some, None, Result, Ok, Err, IfOk, IfErr, ap, sym, ◌∙◌, append_assoc, take-add}
use Rattle.std.specs.Io.KnownBytes.{Consumes}
use Rattle.pure_io.specs.Outside.{Appends}

-- bytes appended in two steps
pub Appends-append : (a b c : Option (List ℕ)) (x y : List ℕ) → Appends a b x → Appends b c y → Appends a c (x ++ y)
Appends-append None None c x y first second = second
Appends-append None (Some b) c x y first second = cc
Appends-append (Some a) None c x y first second = cc
Appends-append (Some a) (Some b) c x y first second =
    let same : b ≡ a ++ x = cc in
    second ∙ ap (λ z. Some (z ++ y)) same ∙ ap Some (append_assoc a x y)

-- the first bytes of a text, and then the first of the others
pub Appends-take : (a b c : Option (List ℕ)) (text : List ℕ) (done count : ℕ)
    → Appends a b (take done text) → Appends b c (take count (drop done text)) → Appends a c (take (done + count) text)
Appends-take a b c text done count first second =
    rw (take-add done count text) (Appends-append a b c (take done text) (take count (drop done text)) first second)

-- bytes taken off the front in two steps
pub Consumes-append : (a b c : Option (List ℕ)) (x y : List ℕ) → Consumes a b x → Consumes b c y → Consumes a c (x ++ y)
Consumes-append None b c x y first second = tt
Consumes-append (Some a) None c x y first second = absurd first
Consumes-append (Some a) (Some b) None x y first second = absurd second
Consumes-append (Some a) (Some b) (Some c) x y first second = first ∙ ap (λ z. x ++ z) second ∙ sym (append_assoc x y c)

-- an answer that is Ok exactly where another is, was made of that
pub Ok-from : {X E F : Type 0} (given : Result X E) (answer : Result X F) (fault : E → F) (x : X)
    → IfOk given (λ y. answer ≡ Ok y) → IfErr given (λ e. answer ≡ Err (fault e)) → answer ≡ Ok x → given ≡ Ok x
Ok-from (Ok y) answer fault x same refused h = cc
Ok-from (Err e) answer fault x same refused h = cc
