-- Codes of environments, as the trees of numbers by which a proof tells two apart.
use Rattle.std.specs.Prelude.{◌≡◌, refl}
use Rattle.std.specs.Coded.{Coded}
use base.Stored.{Gv, gnil, gnum, gcons}
use Rattle.pure_definitions.specs.Models.Codes.{term_code, term_code-same}
use Rattle.pure_norm.specs.Env.{Env, Empty, Bind, Under, Raise}

abbrev pub env_code : Env → Gv
env_code Empty = gnil
env_code (Bind c i r) = gcons (gnum 0) (gcons (term_code c) (gcons (env_code i) (env_code r)))
env_code (Under r) = gcons (gnum 1) (env_code r)
env_code (Raise by r) = gcons (gnum 2) (gcons (gnum by) (env_code r))

pub env_code-same : (e o : Env) → env_code e ≡ env_code o → e ≡ o
env_code-same Empty Empty h = refl
env_code-same (Bind c i r) (Bind d j s) h =
    let n = term_code-same c d (cc) in
    let m = env_code-same i j (cc) in
    let k = env_code-same r s (cc) in
    λ l. Bind (n l) (m l) (k l)
env_code-same (Under r) (Under s) h = let m = env_code-same r s (cc) in λ l. Under (m l)
env_code-same (Raise by r) (Raise also s) h =
    let n : by ≡ also = cc in
    let m = env_code-same r s (cc) in
    λ l. Raise (n l) (m l)
env_code-same _ _ h = absurd (cc)

abbrev pub coded_env : Coded Env
coded_env = record { code = env_code; inj = env_code-same }
