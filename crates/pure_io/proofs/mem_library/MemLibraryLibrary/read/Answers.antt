use Rattle.std.proofs.Common.{refl}
use Rattle.pure_io.proofs.mem_library.MemLibraryLibrary.read.Goals as goal

pub returns-then-count_call-clause-failed : goal.returns-then-count_call-clause-failed
returns-then-count_call-clause-failed g c =
    rw (← c.self.view_is) (λ _. c.if-count_call.ensures.fails.0 refl, λ _. refl)

pub returns-then-count_call-clause-after : goal.returns-then-count_call-clause-after
returns-then-count_call-clause-after g c = rw (← c.self.view_is)
    record {
      files = refl;
      failing = c.if-count_call.ensures.failing;
      calls = c.if-count_call.ensures.calls;
      fault = λ _. c.if-count_call.ensures.faults;
      no_fault = λ passes. absurd (passes (c.if-count_call.ensures.fails.0 refl));
    }

pub returns-then-count_call-clause-missing : goal.returns-then-count_call-clause-missing
returns-then-count_call-clause-missing g c = rw (← c.self.view_is)
    (λ missing. cc, λ passes. absurd (passes.0 (c.if-count_call.ensures.fails.0 refl)))
