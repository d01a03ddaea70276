use Rattle.ixp_policy.specs.Views.{session_of}
use Rattle.ixp_compile_text.proofs.SessionTexts.{own_made}
use Rattle.ixp_compile_text.proofs.texts.own.Goals as goal

pub returns : goal.returns
returns c =
    own_made c.args.registry.now c.args.router.now (session_of c.args.session) _ _ _ _ _ _ c.in_ok-h.ensures c.inputs_in_rows-i.ensures c.new-out.ensures.items
    c.in_ok-put_header.ensures c.in_ok-put_fragment.ensures c.in_ok-put_footer.ensures
