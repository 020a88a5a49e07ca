-- The operators of spec expressions, and the text of each.
use Rattle.std.specs.Prelude.{ℕ, List, [], ◌∷◌, Bool, codes}
use Rattle.std.specs.List.{list_any}
use Rattle.std.specs.Str.{bytes_eq}
use Rattle.isle_ast_verification.specs.declared.spec.SpecOp.{SpecOp}
use Rattle.isle_ast_verification.specs.declared.spec.SpecOp.TheVariants as op

abbrev pub operator_text : SpecOp → List ℕ
operator_text op.Eq = codes "="
operator_text op.And = codes "and"
operator_text op.Or = codes "or"
operator_text op.Not = codes "not"
operator_text op.Imp = codes "=>"
operator_text op.Add = codes "+"
operator_text op.Sub = codes "-"
operator_text op.Mul = codes "*"
operator_text op.Lt = codes "<"
operator_text op.Lte = codes "<="
operator_text op.Gt = codes ">"
operator_text op.Gte = codes ">="
operator_text op.BVNot = codes "bvnot"
operator_text op.BVAnd = codes "bvand"
operator_text op.BVOr = codes "bvor"
operator_text op.BVXor = codes "bvxor"
operator_text op.BVNeg = codes "bvneg"
operator_text op.BVAdd = codes "bvadd"
operator_text op.BVSub = codes "bvsub"
operator_text op.BVMul = codes "bvmul"
operator_text op.BVUdiv = codes "bvudiv"
operator_text op.BVUrem = codes "bvurem"
operator_text op.BVSdiv = codes "bvsdiv"
operator_text op.BVSrem = codes "bvsrem"
operator_text op.BVShl = codes "bvshl"
operator_text op.BVLshr = codes "bvlshr"
operator_text op.BVAshr = codes "bvashr"
operator_text op.BVUle = codes "bvule"
operator_text op.BVUlt = codes "bvult"
operator_text op.BVUgt = codes "bvugt"
operator_text op.BVUge = codes "bvuge"
operator_text op.BVSlt = codes "bvslt"
operator_text op.BVSle = codes "bvsle"
operator_text op.BVSgt = codes "bvsgt"
operator_text op.BVSge = codes "bvsge"
operator_text op.BVSaddo = codes "bvsaddo"
operator_text op.Rotr = codes "rotr"
operator_text op.Rotl = codes "rotl"
operator_text op.Extract = codes "extract"
operator_text op.ZeroExt = codes "zero_ext"
operator_text op.SignExt = codes "sign_ext"
operator_text op.Concat = codes "concat"
operator_text op.Replicate = codes "replicate"
operator_text op.FPEq = codes "fp.eq"
operator_text op.FPNe = codes "fp.ne"
operator_text op.FPLt = codes "fp.lt"
operator_text op.FPGt = codes "fp.gt"
operator_text op.FPLe = codes "fp.le"
operator_text op.FPGe = codes "fp.ge"
operator_text op.FPPositiveInfinity = codes "fp.+oo"
operator_text op.FPNegativeInfinity = codes "fp.-oo"
operator_text op.FPPositiveZero = codes "fp.+zero"
operator_text op.FPNegativeZero = codes "fp.-zero"
operator_text op.FPNaN = codes "fp.NaN"
operator_text op.FPAdd = codes "fp.add"
operator_text op.FPSub = codes "fp.sub"
operator_text op.FPMul = codes "fp.mul"
operator_text op.FPDiv = codes "fp.div"
operator_text op.FPMin = codes "fp.min"
operator_text op.FPMax = codes "fp.max"
operator_text op.FPNeg = codes "fp.neg"
operator_text op.FPCeil = codes "fp.ceil"
operator_text op.FPFloor = codes "fp.floor"
operator_text op.FPSqrt = codes "fp.sqrt"
operator_text op.FPTrunc = codes "fp.trunc"
operator_text op.FPNearest = codes "fp.nearest"
operator_text op.FPIsZero = codes "fp.isZero"
operator_text op.FPIsInfinite = codes "fp.isInfinite"
operator_text op.FPIsNaN = codes "fp.isNaN"
operator_text op.FPIsNegative = codes "fp.isNegative"
operator_text op.FPIsPositive = codes "fp.isPositive"
operator_text op.Popcnt = codes "popcnt"
operator_text op.Clz = codes "clz"
operator_text op.Cls = codes "cls"
operator_text op.Rev = codes "rev"
operator_text op.ConvTo = codes "conv_to"
operator_text op.Int2BV = codes "int2bv"
operator_text op.BV2Nat = codes "bv2nat"
operator_text op.ToFP = codes "to_fp"
operator_text op.ToFPUnsigned = codes "to_fp_unsigned"
operator_text op.ToFPFromFP = codes "to_fp_from_fp"
operator_text op.FPToUBV = codes "fp.to_ubv"
operator_text op.FPToSBV = codes "fp.to_sbv"
operator_text op.WidthOf = codes "widthof"
operator_text op.If = codes "if"
operator_text op.Switch = codes "switch"

-- all of them
abbrev pub operators : List SpecOp
operators =
    op.Eq ∷ op.And ∷ op.Or ∷ op.Not ∷ op.Imp ∷ op.Add ∷ op.Sub ∷ op.Mul ∷ op.Lt ∷ op.Lte ∷ op.Gt ∷ op.Gte ∷
    op.BVNot ∷ op.BVAnd ∷ op.BVOr ∷ op.BVXor ∷ op.BVNeg ∷ op.BVAdd ∷ op.BVSub ∷ op.BVMul ∷ op.BVUdiv ∷
    op.BVUrem ∷ op.BVSdiv ∷ op.BVSrem ∷ op.BVShl ∷ op.BVLshr ∷ op.BVAshr ∷ op.BVUle ∷ op.BVUlt ∷ op.BVUgt ∷
    op.BVUge ∷ op.BVSlt ∷ op.BVSle ∷ op.BVSgt ∷ op.BVSge ∷ op.BVSaddo ∷ op.Rotr ∷ op.Rotl ∷ op.Extract ∷
    op.ZeroExt ∷ op.SignExt ∷ op.Concat ∷ op.Replicate ∷ op.FPEq ∷ op.FPNe ∷ op.FPLt ∷ op.FPGt ∷ op.FPLe ∷
    op.FPGe ∷ op.FPPositiveInfinity ∷ op.FPNegativeInfinity ∷ op.FPPositiveZero ∷ op.FPNegativeZero ∷
    op.FPNaN ∷ op.FPAdd ∷ op.FPSub ∷ op.FPMul ∷ op.FPDiv ∷ op.FPMin ∷ op.FPMax ∷ op.FPNeg ∷ op.FPCeil ∷
    op.FPFloor ∷ op.FPSqrt ∷ op.FPTrunc ∷ op.FPNearest ∷ op.FPIsZero ∷ op.FPIsInfinite ∷ op.FPIsNaN ∷
    op.FPIsNegative ∷ op.FPIsPositive ∷ op.Popcnt ∷ op.Clz ∷ op.Cls ∷ op.Rev ∷ op.ConvTo ∷ op.Int2BV ∷
    op.BV2Nat ∷ op.ToFP ∷ op.ToFPUnsigned ∷ op.ToFPFromFP ∷ op.FPToUBV ∷ op.FPToSBV ∷ op.WidthOf ∷ op.If ∷
    op.Switch ∷ []

-- whether a text is that of an operator
abbrev pub is_operator_text : List ℕ → Bool
is_operator_text text = list_any (λ operator. bytes_eq text (operator_text operator)) operators
