-- The words of modules, one behind the other.
use Rattle.std.proofs.Common.{◌≡◌, ℕ, suc, ◌+◌, ◌<◌, List, [], ◌∷◌, ◌++◌, length, map, drop, get_or, sym, ap, ◌∙◌, arith}
use Rattle.std.proofs.lemmas.List.{drop_more, length-map}
use Rattle.link_model.specs.declared.types.Module.{Module}
use Rattle.link_model.specs.Links.{linked_word, linked_from}
use Rattle.bss_loader.specs.Runs.{Open, word_in, words_in}

words_append : (o : Open) (place : ℕ) (xs ys : List ℕ) → words_in o place (xs ++ ys) ≡ words_in (words_in o place xs) (place + length xs) ys
words_append o place [] ys = let here : place ≡ place + 0 = omega arith in ap (λ (p : ℕ). words_in o p ys) here
words_append o place (x ∷ xs) ys =
    let there : suc place + length xs ≡ place + suc (length xs) = omega arith in
    words_append (word_in o place x) (suc place) xs ys ∙ ap (λ (p : ℕ). words_in (words_in (word_in o place x) (suc place) xs) p ys) there

pub module_added : (base next : ℕ) (entries : List (ℕ × ℕ)) (modules : List Module) (i : ℕ) (m : Module) (o new total : Open) → i < length modules
    → m ≡ get_or modules i m → new ≡ words_in o base (map (linked_word base entries m.externs) m.places) → next ≡ base + length m.places
    → words_in o base (linked_from base entries (drop i modules)) ≡ total → words_in new next (linked_from next entries (drop (i + 1) modules)) ≡ total
module_added base next entries modules i m o new total lt is n e h =
    let here : drop i modules ≡ m ∷ drop (i + 1) modules = drop_more modules i m lt ∙ ap (λ (x : Module). x ∷ drop (i + 1) modules) (sym is) in
    let ws : List ℕ = map (linked_word base entries m.externs) m.places in
    let size : length ws ≡ length m.places = length-map m.places (linked_word base entries m.externs) in
    let rest : List ℕ = linked_from (base + length m.places) entries (drop (i + 1) modules) in
    ap (λ (x : Open). words_in x next (linked_from next entries (drop (i + 1) modules))) n
    ∙ ap (λ (p : ℕ). words_in (words_in o base ws) p (linked_from p entries (drop (i + 1) modules))) e
    ∙ ap (λ (p : ℕ). words_in (words_in o base ws) (base + p) rest) (sym size)
    ∙ sym (words_append o base ws rest)
    ∙ sym (ap (λ (l : List Module). words_in o base (linked_from base entries l)) here) ∙ h
