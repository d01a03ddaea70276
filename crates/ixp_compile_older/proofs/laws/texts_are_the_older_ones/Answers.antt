use Rattle.std.proofs.Common.{◌≡◌, ap, subst}
use Rattle.ixp_print.specs.Texts.{config_text}
use Rattle.ixp_compile.specs.Generated.{header_inputs, inputs, session_part}
use Rattle.ixp_compile.specs.Header.{header}
use Rattle.ixp_compile_older.specs.Texts.{older_header, older_part}
use Rattle.ixp_compile_older.proofs.Bare.{is_bare}
use Rattle.ixp_compile_older.proofs.Laid.{head_alike, own_there, part_alike, whole_there}
use Rattle.ixp_compile_older.proofs.laws.texts_are_the_older_ones.Goals as goal

pub returns : goal.returns
returns c = record {
  head = λ r handle router older there.
      subst (λ q. header (header_inputs r q) ≡ older_header (header_inputs r q)) (is_bare r older handle router there) (head_alike r router);
  part = λ r handle router s older there.
      subst (λ q. session_part (inputs r q s) ≡ older_part (inputs r q s)) (is_bare r older handle router there) (part_alike r router s);
  whole = λ r handle router older there. whole_there r older handle router there;
  own = λ r handle router s older there. own_there r older handle router there s;
  printed = λ r handle router older there. ap config_text (whole_there r older handle router there);
  own_printed = λ r handle router s older there. ap config_text (own_there r older handle router there s);
}
