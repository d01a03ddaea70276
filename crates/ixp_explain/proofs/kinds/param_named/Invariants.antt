use Rattle.std.proofs.Common.{◌≡◌, drop}
use Rattle.ixp_lang.specs.Meaning.{find_named}
use Rattle.ixp_explain.specs.Kinds.{param_of}
use Rattle.ixp_explain.proofs.kinds.param_named.Given as goal

abbrev pub invariant-params : goal.invariant-params
invariant-params l = find_named (param_of (drop l.ty-index l.params)) l.name ≡ find_named (param_of l.params) l.name
