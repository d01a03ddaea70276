use Rattle.std.proofs.Common.{◌++◌, List, ℕ, ap, ◌∙◌}
use Rattle.ixp_print.specs.Texts.{config_text}
use Rattle.ixp_compile.specs.declared.inputs.Inputs.{Inputs}
use Rattle.ixp_compile.specs.Generated.{session_part}
use Rattle.ixp_compile_text.proofs.texts.fragment.Goals as goal

pub returns : goal.returns
returns c =
    c.in_ok-put_fragment.ensures
    ∙ (ap (λ (t : List ℕ). t ++ config_text (session_part c.of.result)) c.new-out.ensures.items
    ∙ ap (λ (i : Inputs). config_text (session_part i)) c.of.ensures)
