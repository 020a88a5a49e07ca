-- The declarations of a map, as they are added.
use Rattle.std.proofs.Common.{◌≡◌, ℕ, List, [], ◌∷◌, ◌++◌, Bool, true, false, cond, Option, None, Some, option_map, ◌<◌, ◌+◌, length, get_or, take, refl, sym, ap, ◌∙◌, string_bytes, if◌then◌else◌}
use Rattle.std.specs.Borrow.{Bor}
use Rattle.std.specs.HashMap.{UpdatesBy, get_by_text}
use Rattle.std.specs.Str.{bytes_eq}
use Rattle.std.specs.String.{string_eq}
use Rattle.std.proofs.lemmas.Map.Text.{hash_map_updates_text}
use Rattle.std.proofs.lemmas.List.{append-nil, map-append, take_more}
use Rattle.std.proofs.lemmas.List.Concat.{flat_map-append}
use Rattle.isle_ast.specs.Tree.{Declaration}
use Rattle.isle_ast.specs.TreeView.{declaration_of}
use Rattle.isle_ast.specs.declared.ast.Decl.{Decl}
use Rattle.isle_check_environment.specs.ByText.{ByText}
use Rattle.isle_check_environment.specs.Names.{or_else}
use Rattle.isle_check_environment.specs.Views.{decls_at}
use Rattle.isle_check_environment.proofs.NameLemmas.{first-or_else}
use Rattle.isle_check_declarations.specs.Terms.{counted_decl, counted_decls, decl_of}
use Rattle.isle_check_declarations.specs.Views.{Declares}

mapped-cond : {A B : Type 0} (f : A → B) (b : Bool) (a : A) (x : Option A) → option_map f (cond b (Some a) x) ≡ cond b (Some (f a)) (option_map f x)
mapped-cond f true a x = refl
mapped-cond f false a x = refl

-- one more declaration at the end comes first
decl_of-last : (ds : List Declaration) (d : Declaration) (text : List ℕ) →
    cond (bytes_eq d.term.text text) (Some d) (decl_of ds text) ≡ decl_of (ds ++ d ∷ []) text
decl_of-last [] d text = refl
decl_of-last (e ∷ es) d text =
    first-or_else (bytes_eq d.term.text text) d (decl_of es text) (if bytes_eq e.term.text text then Some e else None)
    ∙ ap (λ x. or_else x (if bytes_eq e.term.text text then Some e else None)) (decl_of-last es d text)

-- a map that has one more declaration at the text of its term
pub Declares-put : (m n : ByText (Bor Decl)) (text : List ℕ) (d : Bor Decl) (earlier : List Declaration) →
    text ≡ (declaration_of d.now).term.text →
    UpdatesBy string_eq (λ k. bytes_eq text (string_bytes k)) m n (Some d) →
    Declares m earlier → Declares n (earlier ++ declaration_of d.now ∷ [])
Declares-put m n text d earlier its updates declares asked =
    ap (option_map (λ e. declaration_of e.now)) (hash_map_updates_text text m n (Some d) updates asked)
    ∙ mapped-cond (λ e. declaration_of e.now) (bytes_eq text asked) d (get_by_text m asked)
    ∙ ap (λ x. cond (bytes_eq text asked) (Some (declaration_of d.now)) x) (declares asked)
    ∙ ap (λ t. cond (bytes_eq t asked) (Some (declaration_of d.now)) (decl_of earlier asked)) its
    ∙ decl_of-last earlier (declaration_of d.now) asked

-- the declarations that count, one step on
pub counted_decls-more : (known : List ℕ → Bool) (xs : List (Bor Decl)) (i : ℕ) (x : Bor Decl) → i < length xs → x ≡ get_or xs i x →
    counted_decls known (decls_at (take (i + 1) xs)) ≡ counted_decls known (decls_at (take i xs)) ++ counted_decl known (declaration_of x.now)
counted_decls-more known xs i x within is =
    let front : List Declaration = counted_decls known (decls_at (take i xs)) in
    ap (λ ys. counted_decls known (decls_at ys)) (take_more xs i x within)
    ∙ ap (λ y. counted_decls known (decls_at (take i xs ++ y ∷ []))) (sym is)
    ∙ ap (λ ds. counted_decls known ds) (map-append (λ d. declaration_of d.now) (take i xs) (x ∷ []))
    ∙ flat_map-append (counted_decl known) (decls_at (take i xs)) (declaration_of x.now ∷ [])
    ∙ ap (λ ds. front ++ ds) (append-nil (counted_decl known (declaration_of x.now)))
