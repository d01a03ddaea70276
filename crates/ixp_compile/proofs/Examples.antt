-- The example's text, by computation.
use Rattle.std.proofs.Common.{◌≡◌, [], ◌∷◌, refl}
use Rattle.std.specs.Fmt.{digits}
use Rattle.std.specs.Net.Text.{hex, hex_groups_text}
use Rattle.ixp_lang.specs.Trees.{filter_item, stmts}
use Rattle.ixp_print.specs.Texts.{config_text, line, head_line, nameless_head}
use Rattle.ixp_compile.specs.Example.{example_allowed, example_covered, example_header, example_inputs, foot_lines, head_lines, part_lines, text_of}
use Rattle.ixp_compile.specs.Fragment.{fragment, in_body, in_name}
use Rattle.ixp_compile.specs.Generated.{footer}
use Rattle.ixp_compile.specs.Header.{header}
use Rattle.ixp_compile.specs.PlainExample.{plain_head_lines, plain_header, plain_inputs, plain_part_lines, unlisted_inputs, unlisted_lines}

pub head_printed : config_text (header example_header) ≡ text_of head_lines
unfolding line head_line nameless_head digits
head_printed = refl

pub part_printed : config_text (fragment example_inputs example_allowed example_covered) ≡ text_of part_lines
unfolding line head_line nameless_head digits
part_printed = refl

pub foot_printed : config_text footer ≡ text_of foot_lines
unfolding line head_line nameless_head
foot_printed = refl

pub plain_head_printed : config_text (header plain_header) ≡ text_of plain_head_lines
unfolding line head_line nameless_head digits
plain_head_printed = refl

pub plain_part_printed : config_text (fragment plain_inputs [] []) ≡ text_of plain_part_lines
unfolding line head_line nameless_head digits hex_groups_text hex
plain_part_printed = refl

pub unlisted_printed : config_text (filter_item (in_name 1) (stmts (in_body unlisted_inputs [] [])) ∷ []) ≡ text_of unlisted_lines
unfolding line head_line nameless_head digits
unlisted_printed = refl
