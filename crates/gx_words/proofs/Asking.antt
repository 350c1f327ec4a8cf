-- Words of the language ask for threads exactly where one of them is that word.
use Rattle.std.proofs.Common.{◌≡◌, ◌∙◌, ℕ, ◌&&◌, ◌||◌, Bool, true, false, List, [], ◌∷◌, ◌++◌, refl, sym, ap, codes}
use Rattle.std.specs.List.{flat_map, list_all, list_any}
use Rattle.std.specs.Option.{is_some}
use Rattle.std.specs.Str.{bytes_eq}
use Rattle.gx_words.specs.Words.{IsCommand, Name, Part, seed, turns, gen, flag, trace, threads, apart, joined, is_given, is_numbered, name_text, number_of, words_of}
use Rattle.gx_words.specs.Command.{is_threads}
use Rattle.gx_words.specs.declared.options.Options.{Options}
use Rattle.gx_words.proofs.Numbers.{number-first}
use Rattle.gx_words.proofs.Written.{and-true}

-- a number is another word
number-other : (t : List ℕ) → is_some (number_of t) ≡ true → is_threads t ≡ false
number-other [] e = refl
number-other (d ∷ ds) e = ap (λ (b : Bool). b && bytes_eq ds (codes "-threads")) (number-first d ds e)

name-other : (n : Name) → is_threads (codes "--" ++ name_text n) ≡ false
name-other seed = refl
name-other turns = refl
name-other gen = refl

joined-other : (n : Name) (t : List ℕ) → is_threads (codes "--" ++ name_text n ++ codes "=" ++ t) ≡ false
joined-other seed t = refl
joined-other turns t = refl
joined-other gen t = refl

label-other : (n : Name) → bytes_eq (name_text n) (codes "threads") ≡ false
label-other seed = refl
label-other turns = refl
label-other gen = refl

pub asks : (parts : List Part) → list_all is_numbered parts ≡ true → list_any is_threads (flat_map words_of parts) ≡ is_given threads parts
asks [] e = refl
asks (flag trace ∷ ps) e = asks ps e
asks (flag threads ∷ ps) e = refl
asks (apart n t ∷ ps) e =
    let has = and-true (is_some (number_of t)) (list_all is_numbered ps) e in
    ap (λ (b : Bool). b || (is_threads t || list_any is_threads (flat_map words_of ps))) (name-other n)
    ∙ ap (λ (b : Bool). b || list_any is_threads (flat_map words_of ps)) (number-other t has.0)
    ∙ asks ps has.1
    ∙ ap (λ (b : Bool). b || is_given threads ps) (sym (label-other n))
asks (joined n t ∷ ps) e =
    let has = and-true (is_some (number_of t)) (list_all is_numbered ps) e in
    ap (λ (b : Bool). b || list_any is_threads (flat_map words_of ps)) (joined-other n t)
    ∙ asks ps has.1
    ∙ ap (λ (b : Bool). b || is_given threads ps) (sym (label-other n))

pub asked-threads : (ws : List (List ℕ)) (options : Options) → IsCommand ws options → list_any is_threads ws ≡ options.threads
asked-threads ws options is = ap (list_any is_threads) is.written ∙ asks is.parts is.numbered ∙ ap (λ (o : Options). o.threads) (sym is.of.are)
