-- Closed texts.
use Rattle.std.proofs.Common.{◌≡◌, true, false, [], ◌∷◌, codes, None, refl}
use Rattle.std.specs.Fmt.{digits}
use Rattle.ixp_lang.specs.Trees.{device_item, define_item, filter_item, literal, named, stmts, return_value, if_then, stmts_end}
use Rattle.ixp_lang.specs.declared.value.Value.TheVariants as value
use Rattle.ixp_compile.specs.Pieces.{in_turn}
use Rattle.ixp_compile.specs.Header.{header}
use Rattle.ixp_compile.specs.Fragment.{fragment}
use Rattle.ixp_compile.specs.Example.{example_header, example_inputs, example_allowed, example_covered}
use Rattle.ixp_lang_laws.specs.SoundItems.{is_sound}

example_sound : is_sound (in_turn (header example_header ∷ fragment example_inputs example_allowed example_covered ∷ (device_item None ∷ []) ∷ [])) ≡ true
unfolding digits
example_sound = refl

twice : is_sound (in_turn (header example_header ∷ fragment example_inputs example_allowed example_covered ∷ fragment example_inputs example_allowed example_covered ∷ [])) ≡ false
unfolding digits
twice = refl

unknown : is_sound (define_item (codes "a") (named (codes "b")) ∷ []) ≡ false
unknown = refl

misfit : is_sound (filter_item (codes "f") (stmts (if_then (literal (value.Int 1)) stmts_end stmts_end ∷ [])) ∷ []) ≡ false
misfit = refl

no_return : is_sound (filter_item (codes "f") (stmts (return_value (literal (value.Int 1)) ∷ [])) ∷ []) ≡ false
no_return = refl
