mod Bare
mod Fated
mod Laid
