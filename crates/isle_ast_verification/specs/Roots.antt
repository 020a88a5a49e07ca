-- The position of a spec expression.
use Rattle.isle_base_source.specs.declared.pos.Pos.{Pos}
use Rattle.isle_ast_verification.specs.Tree.{SpecNode, int_spec, bit_vector_spec, bool_spec, var_spec, as_spec, field_spec, discriminator_spec, op_spec, match_spec, let_spec, with_spec, macro_spec, expand_spec, pair_spec, enum_spec, struct_spec}

-- the position of a spec expression
abbrev pub spec_pos : SpecNode → Pos
spec_pos (int_spec _ place) = place
spec_pos (bit_vector_spec _ _ place) = place
spec_pos (bool_spec _ place) = place
spec_pos (var_spec _ place) = place
spec_pos (as_spec _ _ place) = place
spec_pos (field_spec _ _ place) = place
spec_pos (discriminator_spec _ _ place) = place
spec_pos (op_spec _ _ place) = place
spec_pos (match_spec _ _ place) = place
spec_pos (let_spec _ _ place) = place
spec_pos (with_spec _ _ place) = place
spec_pos (macro_spec _ _ place) = place
spec_pos (expand_spec _ _ place) = place
spec_pos (pair_spec _ _ place) = place
spec_pos (enum_spec _ _ _ place) = place
spec_pos (struct_spec _ place) = place
