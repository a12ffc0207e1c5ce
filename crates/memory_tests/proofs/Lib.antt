mod NoDisk
