use Rattle.std.proofs.Common.{◌≡◌, IfOk, subst}
use Rattle.ixp_print.specs.Texts.{config_text}
use Rattle.ixp_compile.specs.Header.{header}
use Rattle.ixp_compile.specs.declared.inputs.HeaderInputs.{HeaderInputs}
use Rattle.ixp_compile_text.proofs.texts.head.Goals as goal

pub returns : goal.returns
returns c =
    let P : HeaderInputs → Type 0 = λ h. IfOk c.header_of.result (λ v. v.items ≡ config_text (header h)) in
    subst P c.in_ok-h.ensures c.header_of.ensures
