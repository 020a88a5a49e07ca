-- The relations of signatures, forms and instantiations keep the laws.
use Rattle.std.proofs.Common.{[], ◌≡◌, List, codes, map, Option, None, Some, refl}
use Rattle.isle_base_source.specs.declared.pos.Pos.{Pos}
use Rattle.isle_base.specs.Place.{Placed, unknown}
use Rattle.isle_ast_names.specs.Tree.{Name}
use Rattle.isle_ast.specs.Tree.{TermSignature, FormDefinition, TermInstantiation}
use Rattle.isle_ast_names.specs.Words.{SpellsAll, InParentheses, BehindWord, SpellsName, IsNonEmpty}
use Rattle.isle_ast_names.specs.Erased.{erase_name, erase_names, erase_optional}
use Rattle.isle_ast_verification.specs.Erased.{erase_model}
use Rattle.isle_ast.specs.Erased.{erase_signature, erase_form, erase_instantiation}
use Rattle.isle_ast_verification.specs.TypeModelGrammar.{SpellsTypeModel}
use Rattle.isle_ast.specs.ModelGrammar.{SpellsSignature, SpellsForm, SpellsTag, SpellsInstances, SpellsInstantiation}
use Rattle.isle_ast_names.proofs.Lawful.{Lawful, Then, At, name_lawful, pair_lawful, all_lawful, non_empty_lawful, at_lawful, settled_lawful, made_lawful, parentheses_lawful, word_lawful, name_begins, parentheses_begin}
use Rattle.isle_ast_verification.proofs.Lawful.Models.{model_lawful, Args, Ret, SignatureNode, erase_parts}

pub signature_lawful : (s : TermSignature) → Lawful SpellsSignature erase_signature s
signature_lawful s =
    made_lawful SpellsSignature erase_signature (λ (p : SignatureNode). InParentheses (At p.0 (Then (Args p.1.0) (Ret p.1.1)))) (λ p. (unknown, erase_parts p.1))
    (λ p. record { args = p.1.0; ret = p.1.1; pos = p.0 })
    (λ y all rest h. (h.0, h.1, h.2, (h.3.0, h.3.1.0, h.3.1.1, h.3.1.2), h.4))
    (λ y all rest h. (h.0, h.1, h.2, (h.3.0, (h.3.1, h.3.2, h.3.3)), h.4))
    (λ y. refl) (s.pos, (s.args, s.ret))
    (λ y same. ((y.pos, (y.args, y.ret)), refl, λ i. (unknown, ((same i).args, (same i).ret))))
    (parentheses_lawful (λ p. At p.0 (Then (Args p.1.0) (Ret p.1.1))) (λ p. (unknown, erase_parts p.1)) (s.pos, (s.args, s.ret))
    (at_lawful (λ p. Then (Args p.0) (Ret p.1)) erase_parts s.pos (s.args, s.ret)
    (λ all rest h. parentheses_begin (BehindWord (codes "args") (SpellsAll SpellsTypeModel s.args)) all h.0 h.1)
    (pair_lawful Args (map erase_model) Ret erase_model s.args s.ret
    (parentheses_lawful (λ x. BehindWord (codes "args") (SpellsAll SpellsTypeModel x)) (map erase_model) s.args
    (word_lawful (codes "args") (SpellsAll SpellsTypeModel) (map erase_model) s.args (all_lawful SpellsTypeModel erase_model model_lawful s.args)))
    (parentheses_lawful (λ x. BehindWord (codes "ret") (SpellsTypeModel x)) erase_model s.ret
    (word_lawful (codes "ret") SpellsTypeModel erase_model s.ret (model_lawful s.ret))))))

signatures_lawful : (ss : List TermSignature) → Lawful (SpellsAll SpellsSignature) (map erase_signature) ss
signatures_lawful ss = all_lawful SpellsSignature erase_signature signature_lawful ss

-- forms

pub form_lawful : (f : FormDefinition) → Lawful SpellsForm erase_form f
form_lawful f =
    made_lawful SpellsForm erase_form (λ (p : Pos × (Name × List TermSignature)). At p.0 (Then (SpellsName p.1.0) (SpellsAll SpellsSignature p.1.1)))
    (λ p. (unknown, (erase_name p.1.0, map erase_signature p.1.1)))
    (λ p. record { name = p.1.0; signatures = p.1.1; pos = p.0 })
    (λ y all rest h. record { position = h.0; behind_name = h.1.0; name = h.1.1; signatures = h.1.2 })
    (λ y all rest h. (h.position, (h.behind_name, h.name, h.signatures)))
    (λ y. refl) (f.pos, (f.name, f.signatures))
    (λ y same. ((y.pos, (y.name, y.signatures)), refl, λ i. (unknown, ((same i).name, (same i).signatures))))
    (at_lawful (λ p. Then (SpellsName p.0) (SpellsAll SpellsSignature p.1)) (λ p. (erase_name p.0, map erase_signature p.1)) f.pos (f.name, f.signatures)
    (λ all rest h. name_begins f.name all h.0 h.1)
    (pair_lawful SpellsName erase_name (SpellsAll SpellsSignature) (map erase_signature) f.name f.signatures (name_lawful f.name) (signatures_lawful f.signatures)))

-- instantiations

tag_lawful : (name : Name) → Lawful SpellsTag erase_name name
tag_lawful name =
    parentheses_lawful (λ n. BehindWord (codes "tag") (SpellsName n)) erase_name name
    (word_lawful (codes "tag") SpellsName erase_name name (name_lawful name))

abbrev InstancesNode : Type 0
InstancesNode = Option Name × (List TermSignature × List Name)

abbrev Instances : InstancesNode → List Placed → List Placed → Type 0
Instances p = SpellsInstances p.0 p.1.0 p.1.1

abbrev erase_instances : InstancesNode → InstancesNode
erase_instances p = (erase_optional p.0, (map erase_signature p.1.0, erase_names p.1.1))

abbrev OwnNode : Type 0
OwnNode = List Name × List TermSignature

abbrev Own : OwnNode → List Placed → List Placed → Type 0
Own p all rest = (p.0 ≡ []) × (IsNonEmpty p.1 × SpellsAll SpellsSignature p.1 all rest)

abbrev own : OwnNode → InstancesNode
own p = (None, (p.1, p.0))

abbrev erase_own : OwnNode → OwnNode
erase_own p = (erase_names p.0, map erase_signature p.1)

is_own : (tags : List Name) (signatures : List TermSignature) (y : InstancesNode) → erase_instances (own (tags, signatures)) ≡ erase_instances y →
    (z : OwnNode) × (y ≡ own z) × (erase_own (tags, signatures) ≡ erase_own z)
is_own tags signatures (None, (ss, ts)) same = ((ts, ss), refl, λ i. ((same i).1.1, (same i).1.0))
is_own tags signatures (Some n, (ss, ts)) same = let forms : None ≡ Some (erase_name n) = λ i. (same i).0 in cc

abbrev FormNode : Type 0
FormNode = List TermSignature × (Name × List Name)

abbrev OfForm : FormNode → List Placed → List Placed → Type 0
OfForm p all rest = (p.0 ≡ []) × Then (SpellsName p.1.0) (SpellsAll SpellsTag p.1.1) all rest

abbrev of_form : FormNode → InstancesNode
of_form p = (Some p.1.0, (p.0, p.1.1))

abbrev erase_tagged : Name × List Name → Name × List Name
erase_tagged p = (erase_name p.0, erase_names p.1)

abbrev erase_of_form : FormNode → FormNode
erase_of_form p = (map erase_signature p.0, erase_tagged p.1)

is_of_form : (signatures : List TermSignature) (form : Name) (tags : List Name) (y : InstancesNode) →
    erase_instances (of_form (signatures, (form, tags))) ≡ erase_instances y →
    (z : FormNode) × (y ≡ of_form z) × (erase_of_form (signatures, (form, tags)) ≡ erase_of_form z)
is_of_form signatures form tags (Some n, (ss, ts)) same =
    let forms : Some (erase_name form) ≡ Some (erase_name n) = λ i. (same i).0 in
    let names : erase_name form ≡ erase_name n = cc in
    ((ss, (n, ts)), refl, λ i. ((same i).1.0, (names i, (same i).1.1)))
is_of_form signatures form tags (None, (ss, ts)) same = let forms : Some (erase_name form) ≡ None = λ i. (same i).0 in cc

instances_lawful : (form : Option Name) (signatures : List TermSignature) (tags : List Name) → Lawful Instances erase_instances (form, (signatures, tags))
instances_lawful None signatures tags =
    made_lawful Instances erase_instances Own erase_own own
    (λ y all rest h. (h.1.0, h.0, h.1.1)) (λ y all rest h. (h.1, (h.0, h.2))) (λ y. refl) (tags, signatures) (is_own tags signatures)
    (settled_lawful (λ ss. []) erase_names (λ ss all rest. IsNonEmpty ss × SpellsAll SpellsSignature ss all rest) (map erase_signature) tags signatures (λ y. refl)
    (non_empty_lawful (SpellsAll SpellsSignature) erase_signature signatures (signatures_lawful signatures)))
instances_lawful (Some form) signatures tags =
    made_lawful Instances erase_instances OfForm erase_of_form of_form
    (λ y all rest h. (h.0, h.1.0, h.1.1, h.1.2)) (λ y all rest h. (h.0, (h.1, h.2, h.3))) (λ y. refl) (signatures, (form, tags)) (is_of_form signatures form tags)
    (settled_lawful (λ p. []) (map erase_signature) (λ p. Then (SpellsName p.0) (SpellsAll SpellsTag p.1)) erase_tagged signatures (form, tags) (λ y. refl)
    (pair_lawful SpellsName erase_name (SpellsAll SpellsTag) erase_names form tags (name_lawful form) (all_lawful SpellsTag erase_name tag_lawful tags)))

pub instantiation_lawful : (i : TermInstantiation) → Lawful SpellsInstantiation erase_instantiation i
instantiation_lawful i =
    made_lawful SpellsInstantiation erase_instantiation (λ (p : Pos × (Name × InstancesNode)). At p.0 (Then (SpellsName p.1.0) (Instances p.1.1)))
    (λ p. (unknown, (erase_name p.1.0, erase_instances p.1.1)))
    (λ p. record { term = p.1.0; form = p.1.1.0; signatures = p.1.1.1.0; tags = p.1.1.1.1; pos = p.0 })
    (λ y all rest h. record { position = h.0; behind_term = h.1.0; term = h.1.1; instances = h.1.2 })
    (λ y all rest h. (h.position, (h.behind_term, h.term, h.instances)))
    (λ y. refl) (i.pos, (i.term, (i.form, (i.signatures, i.tags))))
    (λ y same. ((y.pos, (y.term, (y.form, (y.signatures, y.tags)))), refl, λ k. (unknown, ((same k).term, ((same k).form, ((same k).signatures, (same k).tags))))))
    (at_lawful (λ p. Then (SpellsName p.0) (Instances p.1)) (λ p. (erase_name p.0, erase_instances p.1)) i.pos (i.term, (i.form, (i.signatures, i.tags)))
    (λ all rest h. name_begins i.term all h.0 h.1)
    (pair_lawful SpellsName erase_name Instances erase_instances i.term (i.form, (i.signatures, i.tags)) (name_lawful i.term)
    (instances_lawful i.form i.signatures i.tags)))
