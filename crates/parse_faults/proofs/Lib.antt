-- The lemmas.
mod Firsts
